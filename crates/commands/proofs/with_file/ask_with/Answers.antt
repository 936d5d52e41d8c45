use Rattle.std.proofs.Common.{ap, ◌∙◌}
use Rattle.commands.specs.inside.WithFile.{request_with}
use Rattle.commands.proofs.Asking.{replied_as}
use Rattle.commands.proofs.with_file.ask_with.Goals as goal

pub returns-in-Ok-clause-ends : goal.returns-in-Ok-clause-ends
returns-in-Ok-clause-ends g c =
    replied_as _ _ _ _ _ (c.in-Ok.bytes.items, c.in-Ok.ensures, c.command.ensures ∙ ap (request_with c.args.asking) c.deref.ensures.value) c.ask.ensures.ends
