use Rattle.std.proofs.Common.{◌≡◌, ℕ, ◌+◌, ◌%◌, ◌<◌, ◌≤◌, get_or}
use Rattle.sector_disk.proofs.choices.choose.Given as goal

abbrev pub invariant-loop-at : goal.invariant-loop-at
invariant-loop-at g l =
    ((k : ℕ) → k < l.at → (named : ℕ) × goal.F-post g l.pick k (get_or l.initial.counts k 0 + 1) named × (get_or l.counts k 0 ≡ named % (get_or l.initial.counts k 0 + 1)))
    × ((k : ℕ) → l.at ≤ k → get_or l.counts k 0 ≡ get_or l.initial.counts k 0)
