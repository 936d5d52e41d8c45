use Rattle.std.proofs.Common.{rules}
use Rattle.byte_registry.proofs.upgrading.is_current.Goals as goal

pub returns-in-One : goal.returns-in-One
returns-in-One c = search rules
