use Rattle.std.proofs.Common.{◌≡◌, ◌*◌, length, min, take}
use Rattle.std.specs.Prelude.{replicate}
use Rattle.c_answers.proofs.put.clear.Given as goal

abbrev pub invariant-loop-page : goal.invariant-loop-page
invariant-loop-page l = take (min (l.page * 4096) (length l.out)) l.out ≡ replicate (min (l.page * 4096) (length l.out)) 0
