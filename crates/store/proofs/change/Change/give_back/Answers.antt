use Rattle.std.proofs.Common.{◌++◌, sym, ap, subst}
use Rattle.store.specs.Stands.{sectors_of}
use Rattle.store.specs.inside.Change.{staged_sectors}
use Rattle.store.specs.inside.Room.{AreClaimedOnce, IsReleased}
use Rattle.store.proofs.Anew.{released_nothing}
use Rattle.store.proofs.change.Change.give_back.Goals as goal

pub returns-in-Nothing : goal.returns-in-Nothing
returns-in-Nothing c = subst (λ staged. IsReleased c.args.layout.now c.args.layout.now (staged_sectors staged)) (sym c.in-Nothing.is) (released_nothing c.args.layout.now)

pub give_back_room-requires-clause-held : goal.give_back_room-requires-clause-held
give_back_room-requires-clause-held c =
    subst (AreClaimedOnce c.args.layout.now) (ap (λ l. sectors_of c.in-Put.put ++ l) (sym c.as_slice-in-Put.ensures.value))
    (subst (λ staged. AreClaimedOnce c.args.layout.now (staged_sectors staged)) c.in-Put.is c.requires.held)
