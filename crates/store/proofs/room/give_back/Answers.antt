use Rattle.std.proofs.Common.{◌∷◌, [], All, sym, subst}
use Rattle.extents.specs.Extent.{places}
use Rattle.store.specs.Stands.{extents_of, sectors_of}
use Rattle.store.specs.inside.Claimed.{IsFilled}
use Rattle.store.specs.inside.Room.{AreClaimedOnce, IsReleased}
use Rattle.store.proofs.Releases.{held_some, held_rest, released_some, released_rest}
use Rattle.store.proofs.room.give_back.Goals as goal

pub release_sectors-requires : goal.release_sectors-requires
release_sectors-requires c = held_some c.args.layout.now (c.args.placed.now.at ∷ []) (places (extents_of c.args.placed.now.entry)) c.requires.held

pub release_extents-requires-clause-held : goal.release_extents-requires-clause-held
release_extents-requires-clause-held c =
    let old = c.args.layout.now in
    let mid = c.release_sectors.new.layout in
    let own = c.args.placed.now.at ∷ [] in
    let bytes = places (extents_of c.args.placed.now.entry) in
    subst (λ l. AreClaimedOnce mid (places l)) (sym c.file_extents.ensures)
    (held_rest old mid (sectors_of c.args.placed.now) bytes c.requires.held (released_some old own bytes mid c.release_sectors.ensures))

pub release_extents-requires-clause-filled : goal.release_extents-requires-clause-filled
release_extents-requires-clause-filled c =
    subst (λ l. All IsFilled l) (sym c.file_extents.ensures) (λ k e lt. (c.requires.fits.extents.listed.used k e lt).filled)

pub returns : goal.returns
returns c =
    let old = c.args.layout.now in
    let mid = c.release_sectors.new.layout in
    let new = c.release_extents.new.layout in
    let own = c.args.placed.now.at ∷ [] in
    let bytes = places (extents_of c.args.placed.now.entry) in
    released_rest old mid new (sectors_of c.args.placed.now) bytes (released_some old own bytes mid c.release_sectors.ensures)
    (subst (λ l. IsReleased mid new (places l)) c.file_extents.ensures c.release_extents.ensures)
