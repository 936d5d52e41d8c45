use Rattle.std.proofs.Common.{sym, subst}
use Rattle.std.specs.Prelude.{IfErr, IfOk}
use Rattle.c_answers.specs.Bindings.{IsText, IsUntold}
use Rattle.c_answers.proofs.Bindings.{program-untold}
use Rattle.c_answers.proofs.symbols.told_of_program.Goals as goal

pub returns-in-Ok-clause-ok : goal.returns-in-Ok-clause-ok
returns-in-Ok-clause-ok c s at =
    subst (λ p. IfOk c.told_of_admitted.result (λ told. IsText s p c.args.base told.number told.text.items)) c.in-Ok.ensures.same (c.told_of_admitted.ensures.ok s at)

pub returns-in-Ok-clause-err : goal.returns-in-Ok-clause-err
returns-in-Ok-clause-err c s at =
    subst (λ p. IfErr c.told_of_admitted.result (IsUntold s p c.args.base)) c.in-Ok.ensures.same (c.told_of_admitted.ensures.err s at)

pub returns-in-Err-clause-err : goal.returns-in-Err-clause-err
returns-in-Err-clause-err c s at =
    subst (IsUntold s c.args.program.now c.args.base) (sym c.from.ensures) (program-untold s c.args.program.now c.args.base c.in-Err.refusal c.in-Err.ensures.refused)
