use Rattle.std.proofs.Common.{◌<◌, ℕ, length, get_or}
use Rattle.hash_check.specs.declared.endings.Ending.{Ending}
use Rattle.hash_check.proofs.endings.count_of_lengths.Given as goal

abbrev pub invariant-loop-ending : goal.invariant-loop-ending
invariant-loop-ending l = (k : ℕ) (d : Ending) → k < l.ending-index → length (get_or l.endings k d).string.now < l.count
