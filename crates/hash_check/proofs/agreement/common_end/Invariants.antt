use Rattle.std.proofs.Common.{◌≡◌, take, reverse}
use Rattle.hash_check.proofs.agreement.common_end.Given as goal

abbrev pub invariant-loop-i : goal.invariant-loop-i
invariant-loop-i l = take l.i (reverse l.a) ≡ take l.i (reverse l.b)
