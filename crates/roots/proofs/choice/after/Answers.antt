use Rattle.std.proofs.Common.{rules}
use Rattle.roots.proofs.choice.after.Goals as goal

pub returns-in-Two-One : goal.returns-in-Two-One
returns-in-Two-One c = search rules
