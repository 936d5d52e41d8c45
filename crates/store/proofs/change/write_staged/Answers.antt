use Rattle.std.proofs.Common.{◌≡◌, [], ◌∷◌, ◌++◌, length, refl, sym, ap, ◌∙◌, subst, arith}
use Rattle.std.specs.Prelude.{Contains}
use Rattle.sector_disk.specs.Disk.{IsMixtureBut, LeavesOnly}
use Rattle.sector_disk.proofs.Moments.{at_rest}
use Rattle.passes.specs.Singles.{single_places}
use Rattle.store.specs.Stands.{sectors_of}
use Rattle.store.specs.inside.Change.{AreWritten, CanBeStaged, HasSync, IsApartFrom, staged_sectors}
use Rattle.store.specs.inside.Catalogues.{CanBeCatalogued}
use Rattle.store.specs.inside.Room.{HasPlace, HavePlaces}
use Rattle.store.proofs.Puts.{ok_both}
use Rattle.store.proofs.Staging.{list_inside, list_moment, list_now, put_inside, put_once, put_elsewhere, put_moment, put_now, still_written}
use Rattle.store.proofs.change.write_staged.Given as given
use Rattle.store.proofs.change.write_staged.Goals.{After-as_slice-in-Catalogues, After-as_slice-in-Put-2}
use Rattle.store.proofs.change.write_staged.Goals as goal

-- if only catalogues are staged, they have their places
have : (g : given.Over) (c : After-as_slice-in-Catalogues g)
    → HavePlaces (g.D.Disk.facts c.args.disk.now).sectors c.in-Catalogues.catalogues × CanBeCatalogued (length c.in-Catalogues.catalogues) c.args.listed.now
have g c = subst (λ staged. CanBeStaged (g.D.Disk.facts c.args.disk.now).sectors staged c.args.listed.now) c.in-Catalogues.is c.requires.room

list_are : (g : given.Over) (c : After-as_slice-in-Catalogues g) → single_places c.as_slice-in-Catalogues.result.now ≡ c.in-Catalogues.catalogues
list_are g c = ap single_places c.as_slice-in-Catalogues.ensures ∙ c.set_catalogues.ensures.places ∙ c.as_slice.ensures.value

-- an entry that is put, its bytes and the catalogues have their places
place : (g : given.Over) (c : After-as_slice-in-Put-2 g)
    → HasPlace (g.D.Disk.facts c.args.disk.now).sectors c.in-Put.put c.in-Put.catalogues × CanBeCatalogued (length c.in-Put.catalogues) c.args.listed.now
place g c = subst (λ staged. CanBeStaged (g.D.Disk.facts c.args.disk.now).sectors staged c.args.listed.now) c.in-Put.is c.requires.room

put_are : (g : given.Over) (c : After-as_slice-in-Put-2 g) → single_places c.as_slice-in-Put-2.result.now ≡ c.in-Put.put.at ∷ c.in-Put.catalogues
put_are g c = ap single_places c.as_slice-in-Put-2.ensures ∙ c.set_put.ensures.places ∙ ap (λ l. c.in-Put.put.at ∷ l) c.as_slice-in-Put.ensures.value

pub stage-requires-clause-room : goal.stage-requires-clause-room
stage-requires-clause-room g c =
    let here = (goal.at.stage-requires-clause-room g c).After-as_slice-in-Catalogues in
    list_inside c.as_slice-in-Catalogues.result.now (have g here).0 (list_are g here)

pub stage-requires-in-Put-clause-room : goal.stage-requires-in-Put-clause-room
stage-requires-in-Put-clause-room g c =
    let here = (goal.at.stage-requires-in-Put-clause-room g c).After-as_slice-in-Put-2 in
    put_inside c.as_slice-in-Put-2.result.now c.file_extents.result.now (place g here).0 (put_are g here) c.file_extents.ensures

pub stage-requires-in-Put-clause-once : goal.stage-requires-in-Put-clause-once
stage-requires-in-Put-clause-once g c =
    let here = (goal.at.stage-requires-in-Put-clause-once g c).After-as_slice-in-Put-2 in
    put_once c.as_slice-in-Put-2.result.now c.file_extents.result.now (place g here).0 (put_are g here) c.file_extents.ensures

pub stage-requires-in-Put-clause-elsewhere : goal.stage-requires-in-Put-clause-elsewhere
stage-requires-in-Put-clause-elsewhere g c =
    let here = (goal.at.stage-requires-in-Put-clause-elsewhere g c).After-as_slice-in-Put-2 in
    put_elsewhere c.as_slice-in-Put-2.result.now c.file_extents.result.now (place g here).0 (put_are g here) c.file_extents.ensures

pub returns-in-Nothing-clause-any_moment : goal.returns-in-Nothing-clause-any_moment
returns-in-Nothing-clause-any_moment g c honest =
    let disk = g.D.Disk.facts c.args.disk.now in
    at_rest disk (IsMixtureBut (Contains (staged_sectors c.args.staged.now)) disk) (λ m mixture. (m, mixture, record { size = refl; others = λ k other. refl }))

pub returns-in-Catalogues-clause-any_moment : goal.returns-in-Catalogues-clause-any_moment
returns-in-Catalogues-clause-any_moment g c honest =
    let here = (goal.at.returns-in-Catalogues-clause-any_moment g c).After-as_slice-in-Catalogues in
    let disk = g.D.Disk.facts c.args.disk.now in
    subst (λ staged. LeavesOnly disk (g.D.Disk.facts c.stage.new.disk) (IsMixtureBut (Contains (staged_sectors staged)) disk)) (sym c.in-Catalogues.is)
    (list_moment c.as_slice-in-Catalogues.result.now (have g here).0 (list_are g here) (c.stage.ensures.any_moment honest))

pub returns-in-Put-clause-any_moment : goal.returns-in-Put-clause-any_moment
returns-in-Put-clause-any_moment g c honest =
    let here = (goal.at.returns-in-Put-clause-any_moment g c).After-as_slice-in-Put-2 in
    let disk = g.D.Disk.facts c.args.disk.now in
    subst (λ staged. LeavesOnly disk (g.D.Disk.facts c.stage-in-Put.new.disk) (IsMixtureBut (Contains (staged_sectors staged)) disk)) (sym c.in-Put.is)
    (put_moment c.as_slice-in-Put-2.result.now c.file_extents.result.now (place g here).0 (put_are g here) c.file_extents.ensures (c.stage-in-Put.ensures.any_moment honest))

pub returns-in-Nothing-clause-written : goal.returns-in-Nothing-clause-written
returns-in-Nothing-clause-written g c honest written apart sync m mixture =
    let none : written ≡ [] = subst (λ staged. HasSync staged written) c.in-Nothing.is sync in
    subst (λ l. AreWritten (g.D.Disk.facts c.args.disk.now).now l m) (sym none) (record { each = λ k found. absurd (omega (arith, found.1)) })

pub returns-in-Catalogues-clause-written : goal.returns-in-Catalogues-clause-written
returns-in-Catalogues-clause-written g c honest =
    let here = (goal.at.returns-in-Catalogues-clause-written g c).After-as_slice-in-Catalogues in
    ok_both c.stage.result
    (λ same is_synced written apart sync m mixture. still_written (g.D.Disk.facts c.args.disk.now) (g.D.Disk.facts c.stage.new.disk) c.in-Catalogues.catalogues written (list_now c.as_slice-in-Catalogues.result.now (have g here).0 (list_are g here) same) is_synced
    (subst (λ staged. IsApartFrom staged written) c.in-Catalogues.is apart) m mixture)
    (c.stage.ensures.now honest) (c.stage.ensures.synced honest)

pub returns-in-Put-clause-written : goal.returns-in-Put-clause-written
returns-in-Put-clause-written g c honest =
    let here = (goal.at.returns-in-Put-clause-written g c).After-as_slice-in-Put-2 in
    ok_both c.stage-in-Put.result
    (λ same is_synced written apart sync m mixture. still_written (g.D.Disk.facts c.args.disk.now) (g.D.Disk.facts c.stage-in-Put.new.disk) (sectors_of c.in-Put.put ++ c.in-Put.catalogues) written
    (put_now c.as_slice-in-Put-2.result.now c.file_extents.result.now (place g here).0 (put_are g here) c.file_extents.ensures same) is_synced
    (subst (λ staged. IsApartFrom staged written) c.in-Put.is apart) m mixture)
    (c.stage-in-Put.ensures.now honest) (c.stage-in-Put.ensures.synced honest)
