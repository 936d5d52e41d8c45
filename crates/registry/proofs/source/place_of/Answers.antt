use Rattle.registry.proofs.NamedPlaces.{place_some, place_none}
use Rattle.registry.proofs.source.place_of.Goals as goal

pub returns-in-Some-clause-place : goal.returns-in-Some-clause-place
returns-in-Some-clause-place g c entries has own = place_some entries own c.args.name.now c.in-Some.position (c.in-Some.ensures.found entries has)

pub returns-in-None-clause-place : goal.returns-in-None-clause-place
returns-in-None-clause-place g c entries has own = place_none entries c.args.name.now (c.in-None.ensures.found entries has)
