-- For readers and callers: no extents that a file could get have more sectors than the longest unused runs.
use Rattle.std.proofs.Common.{◌≡◌, ◌⊎◌, zero, suc, ℕ, ◌+◌, ◌<◌, ◌≤◌, leb, Bool, true, false, not, cond, take, List, [], ◌∷◌, length, refl, sym, subst, ⊎_elim, inl, inr, arith}
use Rattle.std.specs.Prelude.{Contains, filter}
use Rattle.std.specs.List.{AllByRecursion}
use Rattle.std.proofs.lemmas.Bool.{both_ways, cases_lt, cond_both, false≢true, le-leb, leb-true, not-true}
use Rattle.std.proofs.lemmas.List.Elements.{recursion_from_All}
use Rattle.std.proofs.lemmas.List.Filters.{length-filter_both, sum_by-filter_both}
use Rattle.std.proofs.lemmas.List.Sorted.{Contains-permutation}
use Rattle.std.proofs.lemmas.List.Sums.{sum_by-cons}
use Rattle.extents.specs.declared.extent.Extent.{Extent}
use Rattle.extents.specs.Candidates.{AreCandidates}
use Rattle.extents.specs.Extent.{IsApart, sector_count}
use Rattle.extents.specs.Layout.{AllUnused, IsInside}
use Rattle.extents.specs.Limits.{most_extents}
use Rattle.extents.specs.Longest.{IsBefore, longest_first, longest_runs}
use Rattle.extents.specs.Runs.{unused_runs}
use Rattle.extents.proofs.LongestLemmas.{cases_contains, longest_first-permutes, sorted_by_recursion}
use Rattle.extents.proofs.Pairs.{PairsByRecursion, pairs-weaker, recursion_from_AllPairs}
use Rattle.extents.proofs.RunsLemmas.{unused_runs-contains, unused_runs-cover}

-- one extent lies in another
abbrev IsIn : Extent → Extent → Type 0
IsIn run e = (run.start ≤ e.start) × (e.start + e.count ≤ run.start + run.count)

-- one extent lies in one of these
abbrev IsInSome : List Extent → Extent → Type 0
IsInSome [] e = ⊥
IsInSome (run ∷ runs) e = IsIn run e ⊎ IsInSome runs e

in_some : (runs : List Extent) (run e : Extent) → Contains runs run → IsIn run e → IsInSome runs e
in_some [] run e contains is = absurd (omega (arith, contains.1))
in_some (next ∷ runs) run e contains is = ⊎_elim
    (λ same. inl (subst (λ r. IsIn r e) (sym same) is))
    (λ later. inr (in_some runs run e later is))
    (cases_contains run next runs contains)

-- if `P` holds for all extents and `Q` too, both together hold for all of them
both : (P Q : Extent → Type 0) (es : List Extent) → AllByRecursion P es → AllByRecursion Q es → AllByRecursion (λ e. P e × Q e) es
both P Q [] p q = tt
both P Q (e ∷ es) p q = ((p.0, q.0), both P Q es p.1 q.1)

-- what follows from P and the test holds for each extent that passes the test
all_filter : (P Q : Extent → Type 0) (p : Extent → Bool) → ((e : Extent) → P e → p e ≡ true → Q e) → (es : List Extent) → AllByRecursion P es → AllByRecursion Q (filter p es)
all_filter P Q p gives [] all = tt
all_filter P Q p gives (e ∷ es) all =
    cond_both (p e) (e ∷ filter p es) (filter p es) (AllByRecursion Q) (λ is. (gives e all.0 is, all_filter P Q p gives es all.1)) (λ _. all_filter P Q p gives es all.1)

-- what holds for each two extents also holds for each two that pass a test
pairs_filter : (R : Extent → Extent → Type 0) (p : Extent → Bool) (es : List Extent) → PairsByRecursion R es → PairsByRecursion R (filter p es)
pairs_filter R p [] pairs = tt
pairs_filter R p (e ∷ es) pairs =
    cond_both (p e) (e ∷ filter p es) (filter p es) (PairsByRecursion R)
    (λ _. (all_filter (R e) (R e) p (λ x holds _. holds) es pairs.0, pairs_filter R p es pairs.1))
    (λ _. pairs_filter R p es pairs.1)

-- an extent lies between two places
abbrev IsBetween : ℕ → ℕ → Extent → Type 0
IsBetween low high e = (low ≤ e.start) × (e.start + e.count ≤ high)

-- whether an extent ends at a place or before it
abbrev ends_before : ℕ → Extent → Bool
ends_before place e = leb (e.start + e.count) place

abbrev ends_behind : ℕ → Extent → Bool
ends_behind place e = not (ends_before place e)

module _ (low high : ℕ) (e : Extent) (es : List Extent) (between : AllByRecursion (IsBetween low high) es) where
  before_it : AllByRecursion (IsBetween low e.start) (filter (ends_before e.start) es)
  before_it = all_filter (IsBetween low high) (IsBetween low e.start) (ends_before e.start)
      (λ x here is. (here.0, leb-true (x.start + x.count) e.start is)) es between

  behind_it : AllByRecursion (IsApart e) es → AllByRecursion (IsBetween (e.start + e.count) high) (filter (ends_behind e.start) es)
  behind_it apart = all_filter (λ x. IsBetween low high x × IsApart e x) (IsBetween (e.start + e.count) high) (ends_behind e.start)
      (λ x here is. (
        ⊎_elim
            (λ behind. behind)
            (λ before. absurd (both_ways (ends_before e.start x) (not-true (ends_before e.start x) is) (le-leb (x.start + x.count) e.start before)))
            here.1,
        here.0.1,
      ))
      es (both (IsBetween low high) (IsApart e) es between apart)

-- extents that lie apart between two places have no more sectors than the places between
held_between : (n low high : ℕ) (es : List Extent) → length es ≤ n → low ≤ high → AllByRecursion (IsBetween low high) es
    → PairsByRecursion IsApart es → low + sector_count es ≤ high
held_between n low high [] few le between apart = omega (arith, le)
held_between zero low high (e ∷ es) few le between apart = absurd (omega (arith, few))
held_between (suc n) low high (e ∷ es) few le between apart =
    let sizes = length-filter_both (ends_before e.start) (ends_behind e.start) (λ x. refl) es in
    let first = held_between n low e.start (filter (ends_before e.start) es) (omega (arith, few, sizes)) between.0.0
    (before_it low high e es between.1) (pairs_filter IsApart (ends_before e.start) es apart.1) in
    let second = held_between n (e.start + e.count) high (filter (ends_behind e.start) es) (omega (arith, few, sizes)) between.0.1
    (behind_it low high e es between.1 apart.0) (pairs_filter IsApart (ends_behind e.start) es apart.1) in
    omega (
      arith,
      first,
      second,
      sum_by-cons (λ (x : Extent). x.count) e es,
      sum_by-filter_both (ends_before e.start) (ends_behind e.start) (λ x. refl) (λ (x : Extent). x.count) es,
    )

-- if no run is longer than `most`, one more run adds at most `most` sectors
one_more : (most n : ℕ) (runs : List Extent) → AllByRecursion (λ run. run.count ≤ most) runs → sector_count (take (suc n) runs) ≤ most + sector_count (take n runs)
one_more most n [] shorter = omega arith
one_more most zero (run ∷ runs) shorter = omega (arith, shorter.0, sum_by-cons (λ (x : Extent). x.count) run [])
one_more most (suc n) (run ∷ runs) shorter =
    omega (arith, one_more most n runs shorter.1, sum_by-cons (λ (x : Extent). x.count) run (take (suc n) runs), sum_by-cons (λ (x : Extent). x.count) run (take n runs))

none_held : (es : List Extent) → length es ≤ 0 → sector_count es ≡ 0
none_held [] none = refl
none_held (e ∷ es) none = absurd (omega (arith, none))

-- whether an extent lies in a run
abbrev is_here : Extent → Extent → Bool
is_here run e = cond (leb run.start e.start) (leb (e.start + e.count) (run.start + run.count)) false

abbrev is_other : Extent → Extent → Bool
is_other run e = not (is_here run e)

is_in : (run e : Extent) → is_here run e ≡ true → IsIn run e
is_in run e = cond_both (leb run.start e.start) (leb (e.start + e.count) (run.start + run.count)) false (λ b. b ≡ true → IsIn run e)
    (λ low high. (leb-true run.start e.start low, leb-true (e.start + e.count) (run.start + run.count) high))
    (λ low is. absurd (false≢true is))

is_found : (run e : Extent) → IsIn run e → is_here run e ≡ true
is_found run e inside = cond_both (leb run.start e.start) (leb (e.start + e.count) (run.start + run.count)) false (λ b. b ≡ true)
    (λ low. le-leb (e.start + e.count) (run.start + run.count) inside.1)
    (λ low. absurd (both_ways (leb run.start e.start) low (le-leb run.start e.start inside.0)))

-- the extents that lie in a run have no more sectors than the run, and the others lie in the rest
module _ (run : Extent) (runs es : List Extent) (inside : AllByRecursion (IsInSome (run ∷ runs)) es) where
  here_hold : PairsByRecursion IsApart es → run.start + sector_count (filter (is_here run) es) ≤ run.start + run.count
  here_hold apart = held_between (length (filter (is_here run) es)) run.start (run.start + run.count) (filter (is_here run) es) (omega arith) (omega arith)
      (all_filter (IsInSome (run ∷ runs)) (IsIn run) (is_here run) (λ e _ is. is_in run e is) es inside) (pairs_filter IsApart (is_here run) es apart)

  in_others : AllByRecursion (IsInSome runs) (filter (is_other run) es)
  in_others = all_filter (IsInSome (run ∷ runs)) (IsInSome runs) (is_other run)
      (λ e some is. ⊎_elim (λ inside. absurd (both_ways (is_here run e) (not-true (is_here run e) is) (is_found run e inside))) (λ later. later) some) es inside

-- `n` extents that lie apart in sorted runs have no more sectors than the first `n` runs.
held_in : (n : ℕ) (runs es : List Extent) → PairsByRecursion (λ earlier later. later.count ≤ earlier.count) runs → length es ≤ n → AllByRecursion (IsInSome runs) es
    → PairsByRecursion IsApart es → sector_count es ≤ sector_count (take n runs)
held_in n [] [] sorted few inside apart = omega arith
held_in n [] (e ∷ es) sorted few inside apart = absurd inside.0
held_in zero (run ∷ runs) [] sorted few inside apart = omega arith
held_in zero (run ∷ runs) (e ∷ es) sorted few inside apart = absurd (omega (arith, few))
held_in (suc n) (run ∷ runs) es sorted few inside apart =
    let sizes = length-filter_both (is_here run) (is_other run) (λ e. refl) es in
    let sums = sum_by-filter_both (is_here run) (is_other run) (λ e. refl) (λ (e : Extent). e.count) es in
    let whole = sum_by-cons (λ (e : Extent). e.count) run (take n runs) in
    let others = in_others run runs es inside in
    let apart_others = pairs_filter IsApart (is_other run) es apart in
    ⊎_elim
    (λ some. omega (
      arith,
      held_in n runs (filter (is_other run) es) sorted.1 (omega (arith, few, sizes, some)) others apart_others,
      here_hold run runs es inside apart,
      sums,
      whole,
    ))
    (λ none. omega (
      arith,
      held_in (suc n) runs (filter (is_other run) es) sorted.1 (omega (arith, few, sizes)) others apart_others,
      one_more run.count n runs sorted.0,
      none_held (filter (is_here run) es) none,
      sums,
      whole,
    ))
    (cases_lt 0 (length (filter (is_here run) es)))

-- an unused extent lies in an unused run
unused_in : (flags : List Bool) (e : Extent) → IsInside flags e → AllUnused flags e → IsInSome (longest_first (unused_runs flags)) e
unused_in flags e inside unused =
    let found = unused_runs-cover flags e.start (unused e.start (omega arith, omega (arith, inside.0))) in
    let run = found.1 in
    let contains : Contains (unused_runs flags) run = (found.0, found.2, found.3) in
    let is = (unused_runs-contains flags run).0 contains in
    let ends : e.start + e.count ≤ run.start + run.count = ⊎_elim
    (λ beyond. absurd (is.ends (unused (run.start + run.count) (omega (arith, found.4.1), beyond))))
    (λ le. le)
    (cases_lt (run.start + run.count) (e.start + e.count)) in
    in_some (longest_first (unused_runs flags)) run e
    (Contains-permutation (unused_runs flags) (longest_first (unused_runs flags)) run (longest_first-permutes (unused_runs flags)) contains) (found.4.0, ends)

-- No extents that a file could get have more sectors than the longest unused runs.
pub longest_runs-most : (flags : List Bool) (extents : List Extent) → AreCandidates flags extents → sector_count extents ≤ sector_count (longest_runs flags)
longest_runs-most flags extents could =
    held_in most_extents (longest_first (unused_runs flags)) extents
    (pairs-weaker IsBefore (λ earlier later. later.count ≤ earlier.count) (λ a b. ⊎_elim (λ longer. omega (arith, longer)) (λ same. omega (arith, same.0)))
    (longest_first (unused_runs flags)) (sorted_by_recursion flags))
    could.few
    (recursion_from_All (IsInSome (longest_first (unused_runs flags))) extents (λ k d lt. unused_in flags _ (could.inside k d lt) (could.unused k d lt)))
    (recursion_from_AllPairs IsApart extents could.apart)
