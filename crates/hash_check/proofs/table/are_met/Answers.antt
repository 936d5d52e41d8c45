use Rattle.std.proofs.Common.{arith, refl}
use Rattle.hash_check.proofs.table.are_met.Goals as goal

pub loop-k-init : goal.loop-k-init
loop-k-init c = λ j lt some. absurd (omega (arith, lt))

pub returns : goal.returns
returns c = (λ t. record { met = λ k lt. c.loop-k.invariant k (omega arith) }, λ h. refl)
