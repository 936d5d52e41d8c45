use Rattle.std.specs.Prelude.{Err, IfErr, IfOk, Ok, Result}
use Rattle.image.proofs.Answering.{program-based}
use Rattle.requests.specs.declared.refusal.Refusal.{Refusal}
use Rattle.c_answers.specs.Bindings.{IsText, IsUntold}
use Rattle.c_answers.specs.declared.symbols.Told.{Told}
use Rattle.c_answers.specs.inside.Bindings.{IsFoundText, IsUnfoundText}
use Rattle.c_answers.proofs.Bindings.{found-said, found-untold, unfound}
use Rattle.c_answers.proofs.symbols.told_of_admitted.Goals as goal

pub told_of_found-requires : goal.told_of_found-requires
told_of_found-requires c = program-based c.args.program.now c.args.base c.requires

pub returns-in-Ok-clause-ok : goal.returns-in-Ok-clause-ok
returns-in-Ok-clause-ok c s at = by c.told_of_found.result c.told_of_found.ensures.ok
  where
    by : (r : Result Told Refusal) → IfOk r (λ told. IsFoundText c.args.program.now c.args.base c.in-Ok.found told.number told.text.items)
        → IfOk r (λ told. IsText s c.args.program.now c.args.base told.number told.text.items)
    by (Ok told) said = found-said s c.args.program.now c.args.base c.in-Ok.found c.requires (c.in-Ok.ensures.ok s at) told.number told.text.items said
    by (Err why) said = tt

pub returns-in-Ok-clause-err : goal.returns-in-Ok-clause-err
returns-in-Ok-clause-err c s at = by c.told_of_found.result c.told_of_found.ensures.err
  where
    by : (r : Result Told Refusal) → IfErr r (IsUnfoundText c.args.program.now c.args.base c.in-Ok.found) → IfErr r (IsUntold s c.args.program.now c.args.base)
    by (Ok told) untold = tt
    by (Err why) untold = found-untold s c.args.program.now c.args.base c.in-Ok.found c.requires (c.in-Ok.ensures.ok s at) why untold

pub returns-in-Err-clause-err : goal.returns-in-Err-clause-err
returns-in-Err-clause-err c s at =
    unfound s c.args.program.now c.args.base c.args.registry.now c.find_libraries.new.self c.in-Err.refusal c.requires at
    c.find_libraries.ensures.read c.in-Err.ensures.refusals (c.in-Err.ensures.damaged s at)
