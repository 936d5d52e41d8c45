use Rattle.std.proofs.Common.{◌≡◌, ◌≢◌, None, map, sym, ◌∙◌}
use Rattle.requests.specs.Binding.{object_of}
use Rattle.c_answers.proofs.Bindings.{lacking-found, lacking-unfound, lacks-none, lacks-some, whole-found, whole-unfound}
use Rattle.c_answers.proofs.symbols.told_of_found.Goals as goal

pub returns-then-lacks_some-clause-ok : goal.returns-then-lacks_some-clause-ok
returns-then-lacks_some-clause-ok c =
    let some : c.args.found.now.missing ≢ None = lacks-some c.args.found.now.missing (sym c.lacks_some.ensures ∙ c.if-lacks_some.true) in
    let libraries : c.deref.result.now ≡ map object_of c.args.found.now.libraries = c.deref.ensures.value ∙ c.in-Ok.ensures in
    lacking-found c.args.program.now c.args.base c.args.found.now c.deref.result.now c.told_of_lacking.result libraries some c.told_of_lacking.ensures.number c.told_of_lacking.ensures.text

pub returns-then-lacks_some-clause-err : goal.returns-then-lacks_some-clause-err
returns-then-lacks_some-clause-err c = lacking-unfound c.args.program.now c.args.base c.args.found.now c.told_of_lacking.result c.told_of_lacking.ensures.err

pub returns-in-Ok-clause-ok : goal.returns-in-Ok-clause-ok
returns-in-Ok-clause-ok c =
    let none : c.args.found.now.missing ≡ None = lacks-none c.args.found.now.missing (sym c.lacks_some.ensures ∙ c.if-lacks_some.false) in
    let libraries : c.deref-else-lacks_some.result.now ≡ map object_of c.args.found.now.libraries = c.deref-else-lacks_some.ensures.value ∙ c.in-Ok.ensures in
    whole-found c.args.program.now c.args.base c.args.found.now c.deref-else-lacks_some.result.now c.told_of_whole.result libraries none c.told_of_whole.ensures.ok

pub returns-in-Ok-clause-err : goal.returns-in-Ok-clause-err
returns-in-Ok-clause-err c =
    let none : c.args.found.now.missing ≡ None = lacks-none c.args.found.now.missing (sym c.lacks_some.ensures ∙ c.if-lacks_some.false) in
    let libraries : c.deref-else-lacks_some.result.now ≡ map object_of c.args.found.now.libraries = c.deref-else-lacks_some.ensures.value ∙ c.in-Ok.ensures in
    whole-unfound c.args.program.now c.args.base c.args.found.now c.deref-else-lacks_some.result.now c.told_of_whole.result libraries none c.told_of_whole.ensures.err
