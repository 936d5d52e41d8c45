use Rattle.std.proofs.Common.{refl}
use Rattle.text_output.proofs.buffer.OutputBuffer.send_and_keep.Goals as goal

pub returns-then-has_failed-clause-failed : goal.returns-then-has_failed-clause-failed
returns-then-has_failed-clause-failed g c = λ _. (refl, refl)

pub returns-in-Ok-clause-err : goal.returns-in-Ok-clause-err
returns-in-Ok-clause-err g c = tt
