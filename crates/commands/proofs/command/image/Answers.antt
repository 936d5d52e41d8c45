use Rattle.std.proofs.Common.{sym}
use Rattle.commands.proofs.Ending.{read_ends}
use Rattle.commands.proofs.command.image.Goals as goal

pub returns-in-Some-clause-ends : goal.returns-in-Some-clause-ends
returns-in-Some-clause-ends g c =
    read_ends (λ v. v.items) c.read_file-read.result c.in-Some.base _ _ _ _ (sym c.in-Some.ensures) c.read_file-read.ensures c.show_read.ensures.shown
