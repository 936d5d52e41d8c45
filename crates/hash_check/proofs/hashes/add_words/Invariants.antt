use Rattle.std.proofs.Common.{◌≡◌, ℕ, ◌<◌, ◌*◌, take, drop, get_or}
use Rattle.std.specs.List.{fold}
use Rattle.hash_check.specs.Hash.{hash_step}
use Rattle.hash_check.proofs.hashes.add_words.Given as goal

abbrev pub invariant-loop-i : goal.invariant-loop-i
invariant-loop-i l = (k : ℕ) → k < 8 → get_or l.made k 0 ≡ fold hash_step (get_or l.initial.made k 0) (take (4 * l.i) (drop (get_or l.places k 0) l.table))
