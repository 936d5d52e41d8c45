use Rattle.std.proofs.Common.{◌+◌, get_or, drop, sym, subst, arith}
use Rattle.std.proofs.lemmas.List.{drop_more}
use Rattle.extents.specs.Extent.{one_sector}
use Rattle.store.specs.inside.Room.{AreClaimedOnce}
use Rattle.store.proofs.Releases.{IsReleasedTo, held_rest, first_claimed, released_first, released_step}
use Rattle.store.proofs.room.release_sectors.Goals as goal

pub release-requires : goal.release-requires
release-requires c =
    let sectors = c.args.sectors.now in
    let i = c.loop-at.at-index in
    let here = subst (AreClaimedOnce c.loop-at.layout) (drop_more sectors i 0 c.loop-at-test.true)
    (held_rest c.args.layout.now c.loop-at.layout sectors (drop i sectors) c.requires c.loop-at.invariant) in
    first_claimed c.loop-at.layout (one_sector (get_or sectors i 0)) (drop (i + 1) sectors) (omega arith) here

pub loop-at-preserved : goal.loop-at-preserved
loop-at-preserved c =
    let sectors = c.args.sectors.now in
    let i = c.loop-at.at-index in
    let mid = c.loop-at.layout in
    let first = drop_more sectors i 0 c.loop-at-test.true in
    let here = subst (AreClaimedOnce mid) first (held_rest c.args.layout.now mid sectors (drop i sectors) c.requires c.loop-at.invariant) in
    released_step c.args.layout.now mid c.release.new.self sectors (drop i sectors) (drop (i + 1) sectors) c.loop-at.invariant
    (subst (λ l. IsReleasedTo mid c.release.new.self l (drop (i + 1) sectors)) (sym first)
    (released_first mid (one_sector (get_or sectors i 0)) (drop (i + 1) sectors) (omega arith) here c.release.new.self c.release.ensures.now))
