-- Runs: sequences of steps.
use Rattle.std.specs.Prelude.{◌≡◌, ℕ, List, [], ◌∷◌, take}

-- the last state of the list, or `s` if the list is empty
abbrev pub last_of : {S : Type 0} → S → List S → S
last_of s [] = s
last_of s (t ∷ ts) = last_of t ts

-- the state after the first k of the steps that lead from s to these states; each step leads to one
-- of the states
abbrev pub after : {S : Type 0} → S → List S → ℕ → S
after s states k = last_of s (take k states)

module _ {S Q R : Type 0} (Step : S → Q → R → S → Type 0) where
  -- If the requests `qs` are made one after the other in the state `s`, they may be answered with
  -- the replies `rs` and lead to the states `ts`.
  abbrev pub Steps : S → List Q → List R → List S → Type 0
  Steps s [] [] [] = Unit {0}
  Steps s (q ∷ qs) (r ∷ rs) (t ∷ ts) = Step s q r t × Steps t qs rs ts
  Steps s qs rs ts = ⊥

  -- If the requests `qs` are made one after the other in the state `s`, they may be answered with
  -- the replies `rs` and lead to the state `s'` at the end.
  abbrev pub Run : S → List Q → List R → S → Type 0
  Run s qs rs s' = (states : List S) × Steps s qs rs states × (s' ≡ last_of s states)
