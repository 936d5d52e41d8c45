use Rattle.std.proofs.Common.{rules}
use Rattle.image.proofs.value.written_value.Goals as goal

pub returns-in-6 : goal.returns-in-6
returns-in-6 c = search rules
