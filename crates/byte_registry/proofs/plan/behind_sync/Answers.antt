use Rattle.std.proofs.Common.{rules}
use Rattle.byte_registry.proofs.plan.behind_sync.Goals as goal

pub returns-in-Write : goal.returns-in-Write
returns-in-Write c = search rules
