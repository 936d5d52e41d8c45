use Rattle.std.proofs.Common.{ap, refl, sym, ◌∙◌}
use Rattle.std.specs.Option.{option_map}
use Rattle.commands.specs.inside.Asked.{happening_asked}
use Rattle.commands.proofs.answer.answer_asked.Goals as goal

pub returns-in-Some : goal.returns-in-Some
returns-in-Some g c line is = (happening_asked c.in-Some.asked, sym is ∙ ap (option_map happening_asked) c.in-Some.is, c.happen.ensures)

pub returns-in-None : goal.returns-in-None
returns-in-None g c line is = (sym is ∙ ap (option_map happening_asked) c.in-None.is, refl)
