use Rattle.std.proofs.Common.{◌++◌, ap, ◌∙◌}
use Rattle.tool_commands.specs.Digest.{unread_text}
use Rattle.tool_commands.proofs.digest.unread_lines.Goals as goal

pub returns-in-Ok : goal.returns-in-Ok
returns-in-Ok g c libraries lists =
    c.in-Ok.ensures libraries lists ∙ ap (λ l. l ++ unread_text libraries c.args.digests.now) c.new-lines.ensures.items
