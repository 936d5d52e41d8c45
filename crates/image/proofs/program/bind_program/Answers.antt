use Rattle.std.proofs.lemmas.Result.{err_from_is_err_and}
use Rattle.image.proofs.Answering.{program-answer}
use Rattle.image.proofs.program.bind_program.Goals as goal

pub returns-in_err-program-clause-refused : goal.returns-in_err-program-clause-refused
returns-in_err-program-clause-refused c =
    let p = err_from_is_err_and c.from_residual.result c.from_residual.ensures.1 in
    rw (p.1, p.2) (program-answer c.args.file.now c.args.base c.args.libraries.now c.args.preloads.now c.in_err-program.field-0.0 c.in_err-program.ensures.refused)
