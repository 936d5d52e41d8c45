use Rattle.std.proofs.Common.{◌+◌, get_or, drop, ap, sym, subst}
use Rattle.std.proofs.lemmas.List.{drop_more}
use Rattle.extents.specs.declared.extent.Extent.{Extent}
use Rattle.extents.specs.Extent.{places}
use Rattle.store.specs.inside.Room.{AreClaimedOnce}
use Rattle.store.proofs.Releases.{IsReleasedTo, held_rest, first_claimed, released_first, released_step}
use Rattle.store.proofs.room.release_extents.Goals as goal

abbrev none : Extent
none = record { start = 0; count = 0 }

pub release-requires : goal.release-requires
release-requires c =
    let extents = c.args.extents.now in
    let i = c.loop-extent.extent-index in
    let first = ap places (drop_more extents i none c.loop-extent-test.true) in
    let here = subst (AreClaimedOnce c.loop-extent.layout) first
    (held_rest c.args.layout.now c.loop-extent.layout (places extents) (places (drop i extents)) c.requires.held c.loop-extent.invariant) in
    first_claimed c.loop-extent.layout (get_or extents i none) (places (drop (i + 1) extents)) (c.requires.filled i none c.loop-extent-test.true) here

pub loop-extent-preserved : goal.loop-extent-preserved
loop-extent-preserved c =
    let extents = c.args.extents.now in
    let i = c.loop-extent.extent-index in
    let mid = c.loop-extent.layout in
    let first = ap places (drop_more extents i none c.loop-extent-test.true) in
    let here = subst (AreClaimedOnce mid) first (held_rest c.args.layout.now mid (places extents) (places (drop i extents)) c.requires.held c.loop-extent.invariant) in
    released_step c.args.layout.now mid c.release.new.self (places extents) (places (drop i extents)) (places (drop (i + 1) extents)) c.loop-extent.invariant
    (subst (λ l. IsReleasedTo mid c.release.new.self l (places (drop (i + 1) extents))) (sym first)
    (released_first mid (get_or extents i none) (places (drop (i + 1) extents))
    (c.requires.filled i none c.loop-extent-test.true) here c.release.new.self c.release.ensures.now))
