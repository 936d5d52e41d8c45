use Rattle.std.proofs.Common.{inl, inr}
use Rattle.store.specs.Stands.{sectors_of}
use Rattle.store.proofs.Releases.{held_other}
use Rattle.store.proofs.room.give_up.Goals as goal

pub release_sectors-requires : goal.release_sectors-requires
release_sectors-requires c = held_other c.args.layout.now (sectors_of c.args.placed.now) c.args.catalogues.now c.requires.held

pub returns-then-leave : goal.returns-then-leave
returns-then-leave c = inl (c.leave.ensures.yes c.if-leave.true, c.release_sectors.ensures)

pub returns-else-leave : goal.returns-else-leave
returns-else-leave c =
    let no = c.leave.ensures.no c.if-leave.false in
    inr (no.0, no.1, c.give_back_room.ensures)
