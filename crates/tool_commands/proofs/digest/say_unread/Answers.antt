use Rattle.std.proofs.Common.{subst, ◌∙◌}
use Rattle.program_parts.specs.Said.{AppendsFront}
use Rattle.tool_commands.proofs.digest.say_unread.Goals as goal

pub returns-in-Some : goal.returns-in-Some
returns-in-Some g c libraries lists =
    subst (AppendsFront (g.E.Write.contents c.args.errors.now) (g.E.Write.contents c.say.new.errors)) (c.deref.ensures.value ∙ c.in-Some.ensures libraries lists) c.say.ensures
