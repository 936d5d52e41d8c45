use Rattle.std.proofs.Common.{◌≡◌, ℕ, ◌<◌, take, drop, get_or}
use Rattle.std.specs.List.{fold}
use Rattle.hash_check.specs.Hash.{hash_step}
use Rattle.hash_check.proofs.hashes.add_bytes.Given as goal

abbrev pub invariant-loop-i : goal.invariant-loop-i
invariant-loop-i l = (k : ℕ) → k < 8 → get_or l.hashes k 0 ≡ fold hash_step (get_or l.fn.hashes k 0) (take l.i (drop (get_or l.places k 0) l.table))
