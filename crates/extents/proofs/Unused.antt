-- The unused runs of a layout, computed from its flags.
use Rattle.std.proofs.Common.{◌≡◌, ℕ, zero, suc, ◌+◌, ◌-◌, ◌<◌, ◌≤◌, Bool, true, false, eqb, List, [], ◌∷◌, length, get_or, drop, refl, sym, ap, subst, ◌∙◌, ⊎_elim, arith}
use Rattle.std.proofs.lemmas.Bool.{cases_lt, cases_eq, eq-eqb, ne_eqb, cond-true, cond-false}
use Rattle.std.proofs.lemmas.List.{at_drop_more, drop_all}
use Rattle.extents.specs.declared.extent.Extent.{Extent}
use Rattle.extents.specs.Runs.{with_unused, runs_from}

-- the first of the runs, if there is one, begins at this sector or later
abbrev BeginsFrom : ℕ → List Extent → Type 0
BeginsFrom s [] = Unit {0}
BeginsFrom s (run ∷ runs) = s ≤ run.start

earlier : (s t : ℕ) (runs : List Extent) → s ≤ t → BeginsFrom t runs → BeginsFrom s runs
earlier s t [] le from = tt
earlier s t (run ∷ runs) le from = omega (arith, from)

-- one more unused sector lengthens the first run if this begins right after the sector
pub lengthened : (s : ℕ) (run : Extent) (runs : List Extent) → run.start ≡ s + 1 → with_unused s (run ∷ runs) ≡ record { start = s; count = run.count + 1 } ∷ runs
lengthened s run runs at = cond-true (eqb run.start (s + 1)) (record { start = s; count = run.count + 1 } ∷ runs) (record { start = s; count = 1 } ∷ run ∷ runs) (eq-eqb run.start (s + 1) at)

-- if the first run doesn't begin right after one more unused sector, the runs begin with a new run of only that sector
pub added : (s : ℕ) (run : Extent) (runs : List Extent) → (run.start ≡ s + 1 → ⊥) → with_unused s (run ∷ runs) ≡ record { start = s; count = 1 } ∷ run ∷ runs
added s run runs at = cond-false (eqb run.start (s + 1)) (record { start = s; count = run.count + 1 } ∷ runs) (record { start = s; count = 1 } ∷ run ∷ runs) (ne_eqb run.start (s + 1) at)

-- with one more unused sector, the runs begin at that sector
with_unused_begins : (s : ℕ) (runs : List Extent) → BeginsFrom s (with_unused s runs)
with_unused_begins s [] = omega arith
with_unused_begins s (run ∷ runs) = ⊎_elim
    (λ at. subst (λ l. BeginsFrom s l) (sym (lengthened s run runs at)) (omega arith))
    (λ apart. subst (λ l. BeginsFrom s l) (sym (added s run runs apart)) (omega arith))
    (cases_eq run.start (s + 1))

-- the runs from a sector on begin at that sector or later
runs_begin : (s : ℕ) (flags : List Bool) → BeginsFrom s (runs_from s flags)
runs_begin s [] = tt
runs_begin s (true ∷ flags) = earlier s (s + 1) (runs_from (s + 1) flags) (omega arith) (runs_begin (s + 1) flags)
runs_begin s (false ∷ flags) = with_unused_begins s (runs_from (s + 1) flags)

-- a sector is a run of its own if no run begins right after it
apart_from : (s : ℕ) (runs : List Extent) → BeginsFrom (s + 2) runs → with_unused s runs ≡ record { start = s; count = 1 } ∷ runs
apart_from s [] from = refl
apart_from s (run ∷ runs) from = added s run runs (λ at. absurd (omega (arith, from, at)))

-- the runs from a claimed sector on are the runs from the next sector on
pub past_claimed : (s : ℕ) (flags : List Bool) → s < length flags → ((d : Bool) → get_or flags s d ≡ true) → runs_from s (drop s flags) ≡ runs_from (s + 1) (drop (s + 1) flags)
past_claimed s flags lt claimed = at_drop_more (runs_from s) flags s true lt ∙ ap (λ b. runs_from s (b ∷ drop (s + 1) flags)) (claimed true)

-- the runs from an unused sector on are the runs from the next sector on, with this sector added
pub past_unused : (s : ℕ) (flags : List Bool) → s < length flags → ((d : Bool) → get_or flags s d ≡ false) → runs_from s (drop s flags) ≡ with_unused s (runs_from (s + 1) (drop (s + 1) flags))
past_unused s flags lt unused = at_drop_more (runs_from s) flags s true lt ∙ ap (λ b. runs_from s (b ∷ drop (s + 1) flags)) (unused true)

-- the runs from several claimed sectors on are the runs from the sector after them on
pub skip_claimed : (n s : ℕ) (flags : List Bool) → s + n ≤ length flags → ((k : ℕ) (d : Bool) → s ≤ k → k < s + n → get_or flags k d ≡ true)
    → runs_from s (drop s flags) ≡ runs_from (s + n) (drop (s + n) flags)
skip_claimed zero s flags fits claimed = let same : s ≡ s + 0 = omega arith in ap (λ k. runs_from k (drop k flags)) same
skip_claimed (suc n) s flags fits claimed =
    let same : s + 1 + n ≡ s + suc n = omega arith in
    past_claimed s flags (omega arith) (λ d. claimed s d (omega arith) (omega arith))
    ∙ skip_claimed n (s + 1) flags (omega arith) (λ k d low high. claimed k d (omega arith) (omega arith))
    ∙ ap (λ k. runs_from k (drop k flags)) same

-- past the end there is no run
no_more : (s : ℕ) (flags : List Bool) → length flags ≤ s → runs_from s (drop s flags) ≡ []
no_more s flags past = ap (runs_from s) (drop_all s flags past)

-- if a sector is claimed or past the end, no run begins at it
behind_run : (s : ℕ) (flags : List Bool) → ((d : Bool) → s < length flags → get_or flags s d ≡ true) → BeginsFrom (s + 1) (runs_from s (drop s flags))
behind_run s flags end = ⊎_elim
    (λ lt. subst (λ l. BeginsFrom (s + 1) l) (sym (past_claimed s flags lt (λ d. end d lt))) (runs_begin (s + 1) (drop (s + 1) flags)))
    (λ past. subst (λ l. BeginsFrom (s + 1) l) (sym (no_more s flags past)) tt)
    (cases_lt s (length flags))

-- if unused sectors are followed by a claimed sector or by the end, they are the first run
pub whole_run : (n s : ℕ) (flags : List Bool) → s + suc n ≤ length flags → ((k : ℕ) (d : Bool) → s ≤ k → k < s + suc n → get_or flags k d ≡ false)
    → ((d : Bool) → s + suc n < length flags → get_or flags (s + suc n) d ≡ true)
    → runs_from s (drop s flags) ≡ record { start = s; count = suc n } ∷ runs_from (s + suc n) (drop (s + suc n) flags)
whole_run zero s flags fits unused end =
    let one : s + suc zero ≡ s + 1 = refl in
    past_unused s flags (omega arith) (λ d. unused s d (omega arith) (omega arith))
    ∙ apart_from s (runs_from (s + 1) (drop (s + 1) flags)) (earlier (s + 2) (s + 1 + 1) (runs_from (s + 1) (drop (s + 1) flags)) (omega arith) (behind_run (s + 1) flags end))
whole_run (suc n) s flags fits unused end =
    let same : s + 1 + suc n ≡ s + suc (suc n) = omega arith in
    let more : suc n + 1 ≡ suc (suc n) = omega arith in
    past_unused s flags (omega arith) (λ d. unused s d (omega arith) (omega arith))
    ∙ ap (with_unused s) (whole_run n (s + 1) flags (omega arith) (λ k d low high. unused k d (omega arith) (omega arith))
    (λ d lt. let at : s + 1 + suc n ≡ s + suc (suc n) = omega arith in ap (λ k. get_or flags k d) at ∙ end d (omega arith)))
    ∙ lengthened s (record { start = s + 1; count = suc n }) (runs_from (s + 1 + suc n) (drop (s + 1 + suc n) flags)) refl
    ∙ ap (λ m. record { start = s; count = m } ∷ runs_from (s + 1 + suc n) (drop (s + 1 + suc n) flags)) more
    ∙ ap (λ k. record { start = s; count = suc (suc n) } ∷ runs_from k (drop k flags)) same

-- if all sectors from `from` on are claimed, there is no run
pub no_run : (flags : List Bool) (from : ℕ) → ((k : ℕ) (d : Bool) → from ≤ k → k < length flags → get_or flags k d ≡ true) → runs_from from (drop from flags) ≡ []
no_run flags from claimed = ⊎_elim
    (λ lt.
    skip_claimed (length flags - from) from flags (omega arith) (λ k d low high. claimed k d low (omega arith))
    ∙ no_more (from + (length flags - from)) flags (omega arith))
    (λ past. no_more from flags past)
    (cases_lt from (length flags))
