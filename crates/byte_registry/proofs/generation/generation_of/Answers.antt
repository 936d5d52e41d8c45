use Rattle.roots.specs.declared.version.Version.TheVariants.{Two}
use Rattle.byte_registry.proofs.Generations.{generation_is}
use Rattle.byte_registry.proofs.generation.generation_of.Goals as goal

pub returns-in-Some : goal.returns-in-Some
returns-in-Some c s held = generation_is s held c.in-Some.root (c.in-Some.ensures Two held.stands.0 held.stands.1 s held.stands.2)
