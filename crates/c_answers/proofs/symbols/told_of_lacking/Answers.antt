use Rattle.std.proofs.Common.{◌≡◌, subst}
use Rattle.std.specs.Prelude.{IfOk}
use Rattle.bindings.specs.Dependencies.{Found, dependencies_text}
use Rattle.scope.specs.LoadOrder.{available, names_of}
use Rattle.c_answers.proofs.symbols.told_of_lacking.Goals as goal

pub returns-in-Ok-clause-text : goal.returns-in-Ok-clause-text
returns-in-Ok-clause-text c =
    subst
    (λ (f : Found). IfOk c.told_of_dependencies.result (λ told. told.text.items ≡ dependencies_text (names_of f.libraries) (available f.program f.libraries))) c.in-Ok.ensures c.told_of_dependencies.ensures.text
