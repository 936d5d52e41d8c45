use Rattle.std.proofs.Common.{◌++◌, ◌∙◌, ap}
use Rattle.bindings.specs.Dependencies.{dependencies_text}
use Rattle.scope.specs.LoadOrder.{available, names_of}
use Rattle.c_answers.proofs.symbols.told_of_dependencies.Goals as goal

pub returns-in-Ok-clause-text : goal.returns-in-Ok-clause-text
returns-in-Ok-clause-text c =
    let found = c.args.dependencies.now in
    c.in-Ok.ensures ∙ ap (λ l. l ++ dependencies_text (names_of found.libraries) (available found.program found.libraries)) c.new-text.ensures.items
