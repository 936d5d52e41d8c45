-- Sectors in use before a change and after it, counted one by one.
use Rattle.std.specs.Prelude.{◌≡◌, ℕ, ◌+◌, ◌==◌, List, ◌++◌, sum_by, if◌then◌else◌}

-- 1 if `x` is `k`, and otherwise 0
abbrev pub one : ℕ → ℕ → ℕ
one k x = if x == k then 1 else 0

-- the number of times that a number occurs in a list
abbrev pub occurs : ℕ → List ℕ → ℕ
occurs k xs = sum_by (one k) xs

-- The sectors in use before a change, together with those that it took, are the sectors in use
-- after the change together with those that it gave up.
pub record IsMoved (before more after gone : List ℕ) : Type 0 where
  pub parts : (k : ℕ) → occurs k after + occurs k gone ≡ occurs k (before ++ more)
