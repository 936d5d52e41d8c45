use Rattle.std.proofs.Common.{◌≡◌, ℕ, ◌<◌, get_or, false}
use Rattle.roots.proofs.lists.are_distinct.Given as goal

abbrev pub invariant-loop-i : goal.invariant-loop-i
invariant-loop-i g l = (k : ℕ) → k < l.i → (j : ℕ) (d : g.row.T.Denot) → j < k → g.T.PartialEq.eq (get_or l.values j d) (get_or l.values k d) ≡ false
