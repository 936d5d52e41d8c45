use Rattle.std.proofs.Common.{◌≡◌, ◌∷◌, [], List, ℕ, ap, subst, ◌∙◌}
use Rattle.std.specs.Prelude.{Contains}
use Rattle.std.proofs.lemmas.List.{append-nil}
use Rattle.sector_disk.specs.Disk.{IsMixtureBut, LeavesOnly, SameBut}
use Rattle.passes.specs.Singles.{HoldsSingles, single_places}
use Rattle.store.specs.Stands.{sectors_of}
use Rattle.store.proofs.Staging.{put_elsewhere, put_moment, put_now}
use Rattle.store.proofs.kept.Kept.write_draft.Given as given
use Rattle.store.proofs.kept.Kept.write_draft.Goals.{After-as_slice}
use Rattle.store.proofs.kept.Kept.write_draft.Goals as goal

-- only the entry's sector is written one by one
are : (g : given.Over) (c : After-as_slice g) → single_places c.as_slice.result.now ≡ c.args.put.now.at ∷ []
are g c = ap single_places c.as_slice.ensures ∙ c.set_put.ensures.places

pub write_unsynced-written-requires-clause-elsewhere : goal.write_unsynced-written-requires-clause-elsewhere
write_unsynced-written-requires-clause-elsewhere g c =
    let here = (goal.at.write_unsynced-written-requires-clause-elsewhere g c).After-as_slice in
    put_elsewhere c.as_slice.result.now c.file_extents-extents.result.now c.requires.place (are g here) c.file_extents-extents.ensures

pub returns-in-Err-clause-any_moment : goal.returns-in-Err-clause-any_moment
returns-in-Err-clause-any_moment g c honest =
    let here = (goal.at.returns-in-Err-clause-any_moment g c).After-as_slice in
    let disk = g.D.Disk.facts c.args.disk.now in
    subst (λ (l : List ℕ). LeavesOnly disk (g.D.Disk.facts c.write_unsynced-written.new.disk) (IsMixtureBut (Contains l) disk)) (append-nil (sectors_of c.args.put.now))
    (put_moment c.as_slice.result.now c.file_extents-extents.result.now c.requires.place (are g here) c.file_extents-extents.ensures (c.write_unsynced-written.ensures.any_moment honest))

pub returns-clause-any_moment : goal.returns-clause-any_moment
returns-clause-any_moment g c honest =
    let here = (goal.at.returns-clause-any_moment g c).After-as_slice in
    let disk = g.D.Disk.facts c.args.disk.now in
    subst (λ (l : List ℕ). LeavesOnly disk (g.D.Disk.facts c.write_unsynced-written.new.disk) (IsMixtureBut (Contains l) disk)) (append-nil (sectors_of c.args.put.now))
    (put_moment c.as_slice.result.now c.file_extents-extents.result.now c.requires.place (are g here) c.file_extents-extents.ensures (c.write_unsynced-written.ensures.any_moment honest))

pub returns-clause-now : goal.returns-clause-now
returns-clause-now g c honest =
    let here = (goal.at.returns-clause-now g c).After-as_slice in
    subst (λ (l : List ℕ). SameBut (Contains l) (g.D.Disk.facts c.args.disk.now).now (g.D.Disk.facts c.write_unsynced-written.new.disk).now) (append-nil (sectors_of c.args.put.now))
    (put_now c.as_slice.result.now c.file_extents-extents.result.now c.requires.place (are g here) c.file_extents-extents.ensures (c.in_default.ensures.now honest))

pub returns-clause-entry : goal.returns-clause-entry
returns-clause-entry g c honest =
    c.set_put.ensures.entry (g.D.Disk.facts c.write_unsynced-written.new.disk).now
    (subst (HoldsSingles (g.D.Disk.facts c.write_unsynced-written.new.disk).now) c.as_slice.ensures (c.in_default.ensures.singles honest))
