-- The flags of a disk that has given unused runs. The runs that are found from these flags are the given ones.
use Rattle.std.proofs.Common.{◌≡◌, ℕ, suc, ◌+◌, ◌-◌, ◌<◌, ◌≤◌, ◌⊎◌, Bool, true, false, not, leb, ltb, cond, List, [], ◌∷◌, length, get_or, drop, refl, sym, ap, ◌∙◌, ⊎_elim, inl, inr, arith}
use Rattle.std.proofs.lemmas.Bool.{cases_lt, le-leb, lt-leb, lt-ltb, le-ltb, cond-true, cond-false, true≢false}
use Rattle.std.proofs.lemmas.List.{same_lists, get_or_past}
use Rattle.std.proofs.lemmas.List.FromFn.{length-map-range_with_len, get_or-map-range_with_len}
use Rattle.extents.specs.declared.extent.Extent.{Extent}
use Rattle.extents.specs.Extent.{Has}
use Rattle.extents.specs.Layout.{IsUnused, with_flag}
use Rattle.extents.specs.Runs.{runs_from, unused_runs}
use Rattle.extents.specs.inside.Kept.{AreApart, is_in_run, flag_at, flags_of}
use Rattle.extents.proofs.Apart.{apart_earlier, some_from}
use Rattle.extents.proofs.Unused.{skip_claimed, whole_run, no_run}
use Rattle.extents.proofs.Marks.{is_of, length-with_flag, flag_within, flag_without}
use Rattle.extents.proofs.Sectors.{IsOfSome}

-- the test of a sector is true if a run has the sector
in_run : (runs : List Extent) (s : ℕ) → IsOfSome runs s → is_in_run runs s ≡ true
in_run [] s has = absurd has
in_run (run ∷ runs) s has =
    let test = cond (ltb s (run.start + run.count)) true (is_in_run runs s) in
    ⊎_elim
    (λ here. cond-true (leb run.start s) test (is_in_run runs s) (le-leb run.start s here.0)
    ∙ cond-true (ltb s (run.start + run.count)) true (is_in_run runs s) (lt-ltb s (run.start + run.count) here.1))
    (λ there. ⊎_elim
    (λ below. cond-false (leb run.start s) test (is_in_run runs s) (lt-leb run.start s below) ∙ in_run runs s there)
    (λ from. cond-true (leb run.start s) test (is_in_run runs s) (le-leb run.start s from) ∙ ⊎_elim
    (λ within. cond-true (ltb s (run.start + run.count)) true (is_in_run runs s) (lt-ltb s (run.start + run.count) within))
    (λ past. cond-false (ltb s (run.start + run.count)) true (is_in_run runs s) (le-ltb s (run.start + run.count) past) ∙ in_run runs s there)
    (cases_lt s (run.start + run.count)))
    (cases_lt s run.start))
    has

in_no_run : (runs : List Extent) (s : ℕ) → (IsOfSome runs s → ⊥) → is_in_run runs s ≡ false
in_no_run [] s none = refl
in_no_run (run ∷ runs) s none =
    let test = cond (ltb s (run.start + run.count)) true (is_in_run runs s) in
    let rest = in_no_run runs s (λ there. none (inr there)) in
    ⊎_elim
    (λ below. cond-false (leb run.start s) test (is_in_run runs s) (lt-leb run.start s below) ∙ rest)
    (λ from. cond-true (leb run.start s) test (is_in_run runs s) (le-leb run.start s from) ∙ ⊎_elim
    (λ within. absurd (none (inl (from, within))))
    (λ past. cond-false (ltb s (run.start + run.count)) true (is_in_run runs s) (le-ltb s (run.start + run.count) past) ∙ rest)
    (cases_lt s (run.start + run.count)))
    (cases_lt s run.start)

-- each sector is in a run, or in none
pub has_or_not : (runs : List Extent) (s : ℕ) → IsOfSome runs s ⊎ (IsOfSome runs s → ⊥)
has_or_not [] s = inr (λ has. has)
has_or_not (run ∷ runs) s = ⊎_elim
    (λ here. inl (inl here))
    (λ other. ⊎_elim
    (λ there. inl (inr there))
    (λ none. inr (λ has. ⊎_elim (λ here. ⊎_elim (λ below. omega (arith, below, here.0)) (λ past. omega (arith, past, here.1)) other) (λ there. none there) has))
    (has_or_not runs s))
    (is_of run s)

-- the flag of a sector
pub flag_root : (runs : List Extent) (s : ℕ) → s < 2 → flag_at runs s ≡ false
flag_root runs s lt = cond-true (ltb s 2) false (not (is_in_run runs s)) (lt-ltb s 2 lt)

pub flag_unused : (runs : List Extent) (s : ℕ) → 2 ≤ s → IsOfSome runs s → flag_at runs s ≡ false
flag_unused runs s le has = cond-false (ltb s 2) false (not (is_in_run runs s)) (le-ltb s 2 le) ∙ ap not (in_run runs s has)

pub flag_claimed : (runs : List Extent) (s : ℕ) → 2 ≤ s → (IsOfSome runs s → ⊥) → flag_at runs s ≡ true
flag_claimed runs s le none = cond-false (ltb s 2) false (not (is_in_run runs s)) (le-ltb s 2 le) ∙ ap not (in_no_run runs s none)

flag_same : (a b : List Extent) (s : ℕ) → (IsOfSome a s → IsOfSome b s) → (IsOfSome b s → IsOfSome a s) → flag_at a s ≡ flag_at b s
flag_same a b s to back = ⊎_elim
    (λ root. flag_root a s root ∙ sym (flag_root b s root))
    (λ le. ⊎_elim
    (λ has. flag_unused a s le has ∙ sym (flag_unused b s le (to has)))
    (λ none. flag_claimed a s le none ∙ sym (flag_claimed b s le (λ has. none (back has))))
    (has_or_not a s))
    (cases_lt s 2)

pub length-flags_of : (sectors : ℕ) (runs : List Extent) → length (flags_of sectors runs) ≡ sectors
length-flags_of sectors runs = length-map-range_with_len (flag_at runs) 0 sectors

pub flag_is : (sectors : ℕ) (runs : List Extent) (s : ℕ) (d : Bool) → s < sectors → get_or (flags_of sectors runs) s d ≡ flag_at runs s
flag_is sectors runs s d lt = get_or-map-range_with_len (flag_at runs) 0 sectors s s d lt (omega arith)

-- each unused sector is in a run
pub unused_has : (sectors : ℕ) (runs : List Extent) (s : ℕ) → IsUnused (flags_of sectors runs) s → IsOfSome runs s
unused_has sectors runs s unused = ⊎_elim
    (λ lt. ⊎_elim
    (λ has. has)
    (λ none. absurd (true≢false (sym (flag_is sectors runs s true lt ∙ flag_claimed runs s unused.0 none) ∙ unused.1)))
    (has_or_not runs s))
    (λ past. absurd (true≢false (sym (get_or_past (flags_of sectors runs) s true (omega (arith, length-flags_of sectors runs))) ∙ unused.1)))
    (cases_lt s sectors)

pub has_unused : (sectors : ℕ) (runs : List Extent) (s : ℕ) → AreApart 2 sectors runs → IsOfSome runs s → IsUnused (flags_of sectors runs) s
has_unused sectors runs s are has =
    let within = some_from 2 sectors s runs are has in
    (within.0, flag_is sectors runs s true within.1 ∙ flag_unused runs s within.0 has)

-- if the sectors of an extent are removed from the runs, they are claimed
pub flags_cut : (sectors : ℕ) (old new : List Extent) (e : Extent) → 2 ≤ e.start → e.start + e.count ≤ sectors
    → ((s : ℕ) → IsOfSome new s → IsOfSome old s × (Has e s → ⊥)) → ((s : ℕ) → IsOfSome old s → (Has e s → ⊥) → IsOfSome new s)
    → flags_of sectors new ≡ with_flag true e (flags_of sectors old)
flags_cut sectors old new e low high to back =
    let size = length-flags_of sectors old in
    let fits : e.start + e.count ≤ length (flags_of sectors old) = omega (arith, size, high) in
    same_lists (flags_of sectors new) (with_flag true e (flags_of sectors old)) (omega (arith, length-flags_of sectors new, size, length-with_flag true e (flags_of sectors old) fits))
    (λ k d lt.
    let inside : k < sectors = omega (arith, lt, length-flags_of sectors new) in
    flag_is sectors new k d inside ∙ ⊎_elim
    (λ within. flag_claimed new k (omega (arith, low, within.0)) (λ has. (to k has).1 within) ∙ sym (flag_within true e (flags_of sectors old) k d fits within))
    (λ without.
    let no : Has e k → ⊥ = λ within. ⊎_elim (λ below. omega (arith, below, within.0)) (λ past. omega (arith, past, within.1)) without in
    flag_same new old k (λ has. (to k has).0) (λ has. back k has no) ∙ sym (flag_is sectors old k d inside) ∙ sym (flag_without true e (flags_of sectors old) k d fits without))
    (is_of e k))

-- if the sectors of an extent are added to the runs, they are unused
pub flags_joined : (sectors : ℕ) (old new : List Extent) (e : Extent) → 2 ≤ e.start → e.start + e.count ≤ sectors
    → ((s : ℕ) → IsOfSome new s → IsOfSome old s ⊎ Has e s) → ((s : ℕ) → IsOfSome old s → IsOfSome new s) → ((s : ℕ) → Has e s → IsOfSome new s)
    → flags_of sectors new ≡ with_flag false e (flags_of sectors old)
flags_joined sectors old new e low high to back has_new =
    let size = length-flags_of sectors old in
    let fits : e.start + e.count ≤ length (flags_of sectors old) = omega (arith, size, high) in
    same_lists (flags_of sectors new) (with_flag false e (flags_of sectors old)) (omega (arith, length-flags_of sectors new, size, length-with_flag false e (flags_of sectors old) fits))
    (λ k d lt.
    let inside : k < sectors = omega (arith, lt, length-flags_of sectors new) in
    flag_is sectors new k d inside ∙ ⊎_elim
    (λ within. flag_unused new k (omega (arith, low, within.0)) (has_new k within) ∙ sym (flag_within false e (flags_of sectors old) k d fits within))
    (λ without.
    let no : Has e k → ⊥ = λ within. ⊎_elim (λ below. omega (arith, below, within.0)) (λ past. omega (arith, past, within.1)) without in
    flag_same new old k (λ has. ⊎_elim (λ was. was) (λ within. absurd (no within)) (to k has)) (λ has. back k has)
    ∙ sym (flag_is sectors old k d inside) ∙ sym (flag_without false e (flags_of sectors old) k d fits without))
    (is_of e k))

-- the runs that are found from the flags are the given ones, from each sector on
runs_again : (sectors from : ℕ) (all runs : List Extent) → 2 ≤ from → AreApart from sectors runs
    → ((s : ℕ) → from ≤ s → IsOfSome all s → IsOfSome runs s) → ((s : ℕ) → IsOfSome runs s → IsOfSome all s)
    → runs_from from (drop from (flags_of sectors all)) ≡ runs
runs_again sectors from all [] behind are to back =
    no_run (flags_of sectors all) from (λ k d low lt. flag_is sectors all k d (omega (arith, lt, length-flags_of sectors all)) ∙ flag_claimed all k (omega (arith, low, behind)) (λ has. to k low has))
runs_again sectors from all (run ∷ runs) behind are to back =
    let flags = flags_of sectors all in
    let size = length-flags_of sectors all in
    let end = run.start + run.count in
    let long : suc (run.count - 1) ≡ run.count = omega (arith, are.1) in
    let gap : from + (run.start - from) ≡ run.start = omega (arith, are.0) in
    let stop : run.start + suc (run.count - 1) ≡ end = omega (arith, are.1) in
    let run_is : ◌≡◌ {A = Extent} (record { start = run.start; count = suc (run.count - 1) }) run = rw (long) refl in
    skip_claimed (run.start - from) from flags (omega (arith, are.0, are.2, size))
    (λ k d low high. flag_is sectors all k d (omega (arith, high, are.0, are.2)) ∙ flag_claimed all k (omega (arith, low, behind)) (λ has. ⊎_elim
    (λ here. omega (arith, here.0, high, are.0))
    (λ there. omega (arith, (some_from (end + 1) sectors k runs are.3 there).0, high, are.0))
    (to k low has)))
    ∙ ap (λ k. runs_from k (drop k flags)) gap
    ∙ whole_run (run.count - 1) run.start flags (omega (arith, are.1, are.2, size))
    (λ k d low high. flag_is sectors all k d (omega (arith, high, are.1, are.2))
    ∙ flag_unused all k (omega (arith, low, are.0, behind)) (back k (inl (low, omega (arith, high, are.1)))))
    (λ d lt. flag_is sectors all (run.start + suc (run.count - 1)) d (omega (arith, lt, size)) ∙ flag_claimed all (run.start + suc (run.count - 1)) (omega (arith, are.0, behind)) (λ has. ⊎_elim
    (λ here. omega (arith, here.1, are.1))
    (λ there. omega (arith, (some_from (end + 1) sectors (run.start + suc (run.count - 1)) runs are.3 there).0, are.1))
    (to (run.start + suc (run.count - 1)) (omega (arith, are.0)) has)))
    ∙ ap (λ l. l ∷ runs_from (run.start + suc (run.count - 1)) (drop (run.start + suc (run.count - 1)) flags)) run_is
    ∙ ap (λ k. run ∷ runs_from k (drop k flags)) stop
    ∙ ap (λ l. run ∷ l) (runs_again sectors end all runs (omega (arith, are.0, behind)) (apart_earlier end (end + 1) sectors runs (omega arith) are.3)
    (λ s low has. ⊎_elim (λ here. absurd (omega (arith, here.1, low))) (λ there. there) (to s (omega (arith, low, are.0)) has))
    (λ s has. back s (inr has)))

-- the unused runs are the given ones
pub unused_runs-flags_of : (sectors : ℕ) (runs : List Extent) → AreApart 2 sectors runs → unused_runs (flags_of sectors runs) ≡ runs
unused_runs-flags_of sectors runs are = runs_again sectors 2 runs runs (omega arith) are (λ s low has. has) (λ s has. has)
