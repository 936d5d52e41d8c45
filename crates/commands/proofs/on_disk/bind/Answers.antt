use Rattle.std.proofs.Common.{sym}
use Rattle.commands.specs.Outcome.{Asks}
use Rattle.commands.specs.Words as words
use Rattle.commands.specs.declared.with_file.WithFile.TheVariants as with
use Rattle.commands.specs.inside.WithFile.{AsksWith}
use Rattle.commands.proofs.Asking.{replied_also, bind_ends}
use Rattle.commands.proofs.on_disk.bind.Goals as goal

pub returns-in-Some-clause-ends : goal.returns-in-Some-clause-ends
returns-in-Some-clause-ends g c =
    let at = c.in-Some.base in
    let read = sym c.in-Some.ensures in
    bind_ends _ _ at _ _ _ read
    (replied_also _ _ (AsksWith (with.Bind at)) (Asks (words.bind c.args.disk.now c.args.program.now c.args.base.now)) (λ q h. (h.0, at, h.1, read, h.2)) _ c.ask_with.ensures.ends)
