use Rattle.std.proofs.Common.{◌++◌, ◌∙◌, ap}
use Rattle.bindings.specs.Bindings.{bindings_text}
use Rattle.c_answers.proofs.Bindings.{symbols-number}
use Rattle.c_answers.proofs.symbols.told_of_bindings.Goals as goal

pub returns-in-Ok-clause-number : goal.returns-in-Ok-clause-number
returns-in-Ok-clause-number c = c.bound_status.ensures ∙ symbols-number c.args.bindings.now c.in-Ok.bound c.in-Ok.ensures.bound

pub returns-in-Ok-clause-text : goal.returns-in-Ok-clause-text
returns-in-Ok-clause-text c = c.in-Ok.ensures.text ∙ ap (λ l. l ++ bindings_text c.args.bindings.now) c.new-text.ensures.items
