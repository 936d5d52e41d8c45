-- Runs with one more step.
use Rattle.std.proofs.Common.{◌≡◌, ℕ, take, List, [], ◌∷◌, ◌++◌, refl, sym, subst, suc, zero}
use Rattle.requests.specs.Runs.{last_of, Steps, Run}

pub last_more : {S : Type 0} (s u : S) (ts : List S) → last_of s (ts ++ u ∷ []) ≡ u
last_more s u [] = refl
last_more s u (t ∷ ts) = last_more t u ts

last_append : {S : Type 0} (s : S) (ts us : List S) → last_of s (ts ++ us) ≡ last_of (last_of s ts) us
last_append s [] us = refl
last_append s (t ∷ ts) us = last_append t ts us

module _ {S Q R : Type 0} (Step : S → Q → R → S → Type 0) where
  pub steps_more : (s u : S) (q : Q) (r : R) (qs : List Q) (rs : List R) (ts : List S) → Steps Step s qs rs ts → Step (last_of s ts) q r u → Steps Step s (qs ++ q ∷ []) (rs ++ r ∷ []) (ts ++ u ∷ [])
  steps_more s u q r [] [] [] h step = (step, tt)
  steps_more s u q r (x ∷ qs) (y ∷ rs) (t ∷ ts) h step = (h.0, steps_more t u q r qs rs ts h.1 step)
  steps_more s u q r [] [] (t ∷ ts) h step = absurd h
  steps_more s u q r [] (y ∷ rs) ts h step = absurd h
  steps_more s u q r (x ∷ qs) [] ts h step = absurd h
  steps_more s u q r (x ∷ qs) (y ∷ rs) [] h step = absurd h

  steps_append : (s : S) (qs : List Q) (rs : List R) (ts : List S) (qs' : List Q) (rs' : List R) (ts' : List S) → Steps Step s qs rs ts
      → Steps Step (last_of s ts) qs' rs' ts' → Steps Step s (qs ++ qs') (rs ++ rs') (ts ++ ts')
  steps_append s [] [] [] qs' rs' ts' h more = more
  steps_append s (x ∷ qs) (y ∷ rs) (t ∷ ts) qs' rs' ts' h more = (h.0, steps_append t qs rs ts qs' rs' ts' h.1 more)
  steps_append s [] [] (t ∷ ts) qs' rs' ts' h more = absurd h
  steps_append s [] (y ∷ rs) ts qs' rs' ts' h more = absurd h
  steps_append s (x ∷ qs) [] ts qs' rs' ts' h more = absurd h
  steps_append s (x ∷ qs) (y ∷ rs) [] qs' rs' ts' h more = absurd h

  -- the first k steps are steps too, and lead to the state after them
  steps_first : (k : ℕ) (s : S) (qs : List Q) (rs : List R) (ts : List S) → Steps Step s qs rs ts → Steps Step s (take k qs) (take k rs) (take k ts)
  steps_first zero s qs rs ts h = tt
  steps_first (suc k) s [] [] [] h = tt
  steps_first (suc k) s (x ∷ qs) (y ∷ rs) (t ∷ ts) h = (h.0, steps_first k t qs rs ts h.1)
  steps_first (suc k) s [] [] (t ∷ ts) h = absurd h
  steps_first (suc k) s [] (y ∷ rs) ts h = absurd h
  steps_first (suc k) s (x ∷ qs) [] ts h = absurd h
  steps_first (suc k) s (x ∷ qs) (y ∷ rs) [] h = absurd h

  -- a run followed by one more step is a run
  pub run_more : (s t u : S) (q : Q) (r : R) (qs : List Q) (rs : List R) → Run Step s qs rs t → Step t q r u → Run Step s (qs ++ q ∷ []) (rs ++ r ∷ []) u
  run_more s t u q r qs rs run step = (run.0 ++ u ∷ [], steps_more s u q r qs rs run.0 run.1 (subst (λ x. Step x q r u) run.2 step), sym (last_more s u run.0))
