use Rattle.std.proofs.Common.{◌≡◌, ◌≢◌, ◌<◌, ◌+◌, ℕ, false, length, reverse, get_or}
use Rattle.std.specs.Prelude.{slice_index}
use Rattle.std.specs.Cmp.Lexicographic.{slice_cmp}
use Rattle.std.specs.Ordering.{nat_cmp, is_lt}
use Rattle.hash_check.specs.inside.Endings.{IsIn, string_back, AreHeld}
use Rattle.hash_check.specs.declared.endings.Ending.{Ending}
use Rattle.hash_check.proofs.endings.number_all.Given as goal

abbrev pub invariant-loop-ending : goal.invariant-loop-ending
invariant-loop-ending l = record {
  past : l.past ≡ length l.last + 1;
  held : AreHeld l.names (reverse l.last) l.marks l.numbers;
  told : (k p : ℕ) (d : Ending) → p < l.ending-index → IsIn k (get_or l.endings p d) → slice_index l.numbers k ≢ 0;
  next : (d : Ending) → l.ending-index < length l.endings → is_lt (slice_cmp nat_cmp (string_back (get_or l.endings l.ending-index d)) (reverse l.last)) ≡ false;
}
