-- The choice between two slots is the current root of the two sectors.
use Rattle.std.proofs.Common.{◌≡◌, ℕ, ◌%◌, ◌<◌, ◌≤◌, List, Bool, true, false, cond, eqb, ◌&&◌, Result, Ok, Err, refl, sym, ap, subst, ◌∙◌, inl, inr, arith}
use Rattle.std.specs.Int.{abs_diff}
use Rattle.std.proofs.lemmas.Bool.{eqb-true, and_parts, cases_lt, lt-ltb, le-ltb}
use Rattle.roots.specs.declared.root.Root.{Root}
use Rattle.roots.specs.declared.slot.Slot.{Slot}
use Rattle.roots.specs.declared.slot.Slot.TheVariants.{Empty, Good, Bad}
use Rattle.roots.specs.declared.version.Version.{Version}
use Rattle.roots.specs.declared.version.Version.TheVariants.{One, Two}
use Rattle.roots.specs.declared.choice.ChooseRefusal.{ChooseRefusal}
use Rattle.roots.specs.declared.choice.ChooseRefusal.TheVariants.{NotFormatted, Damaged}
use Rattle.roots.specs.Root.{version_of, LacksMagic, SpellsRoot}
use Rattle.roots.specs.Slot.{IsSlotOf}
use Rattle.roots.specs.Choice.{slot_of, are_neighbours, keeps_version, are_in_row, earlier, later, chosen, AreSuccessive, KeepsVersion, IsCurrent}
use Rattle.roots.proofs.Roots.{one_root, spelt_has_magic}

abbrev Answer : Type 0
Answer = Result Root ChooseRefusal

successive_from_test : (even odd : ℕ) → are_neighbours even odd ≡ true → AreSuccessive even odd
successive_from_test even odd test =
    let both = and_parts (eqb (even % 2) 0 && eqb (odd % 2) 1) (eqb (abs_diff even odd) 1) test in
    let parities = and_parts (eqb (even % 2) 0) (eqb (odd % 2) 1) both.0 in
    let apart : abs_diff even odd ≡ 1 = eqb-true _ _ both.1 in
    record { parity0 = eqb-true _ _ parities.0; parity1 = eqb-true _ _ parities.1; apart = elim (cases_lt even odd) [ inl lt ↦ inl (omega arith) | inr le ↦ inr (omega arith) ] }

test_from_successive : (even odd : ℕ) → AreSuccessive even odd → are_neighbours even odd ≡ true
test_from_successive even odd s =
    let apart : abs_diff even odd ≡ 1 = elim s.apart [ inl e ↦ omega arith | inr e ↦ omega arith ] in
    rw (s.parity0, s.parity1, apart) refl

keeps_from_test : (older newer : Version) → keeps_version older newer ≡ true → newer ≡ One → older ≡ One
keeps_from_test One newer test is = refl
keeps_from_test Two One test is = absurd cc
keeps_from_test Two Two test is = is

test_from_keeps : (older newer : Version) → (newer ≡ One → older ≡ One) → keeps_version older newer ≡ true
test_from_keeps One newer keeps = refl
test_from_keeps Two One keeps = let gone : Two ≡ One = keeps refl in absurd cc
test_from_keeps Two Two keeps = refl

-- if an answer that depends on a test is Ok, the test holds
ok_from_test : (test : Bool) (a b : Root) → ◌≡◌ {A = Answer} (cond test (Ok a) (Err Damaged)) (Ok b) → (test ≡ true) × (a ≡ b)
ok_from_test true a b e = (refl, cc)
ok_from_test false a b e = absurd cc

ok_by_test : (test : Bool) (a : Root) → test ≡ true → ◌≡◌ {A = Answer} (cond test (Ok a) (Err Damaged)) (Ok a)
ok_by_test true a e = refl
ok_by_test false a e = absurd cc

pub current_from_chosen : (sector0 sector1 : List ℕ) (slot0 slot1 : Slot) → IsSlotOf sector0 slot0 → IsSlotOf sector1 slot1
    → (root : Root) → chosen slot0 slot1 ≡ Ok root → IsCurrent sector0 sector1 root
current_from_chosen s0 s1 (Good even) (Good odd) is0 is1 root e =
    let p = ok_from_test (are_in_row even odd) (later even odd) root e in
    let tests = and_parts (are_neighbours even.generation odd.generation) (keeps_version (version_of (earlier even odd)) (version_of (later even odd))) p.0 in
    inr (even, odd, is0, is1, successive_from_test even.generation odd.generation tests.0, keeps_from_test (version_of (earlier even odd)) (version_of (later even odd)) tests.1, sym p.1)
current_from_chosen s0 s1 (Good first) Empty is0 is1 root e =
    let p = ok_from_test (eqb first.generation 0) first root e in
    inl (subst (SpellsRoot s0) p.1 is0, ap (λ r. r.generation) (sym p.1) ∙ eqb-true _ _ p.0, is1)
current_from_chosen s0 s1 (Good first) Bad is0 is1 root e = absurd cc
current_from_chosen s0 s1 Empty Empty is0 is1 root e = absurd cc
current_from_chosen s0 s1 Empty (Good other) is0 is1 root e = absurd cc
current_from_chosen s0 s1 Empty Bad is0 is1 root e = absurd cc
current_from_chosen s0 s1 Bad slot1 is0 is1 root e = absurd cc

pub chosen_from_current : (sector0 sector1 : List ℕ) (slot0 slot1 : Slot) → IsSlotOf sector0 slot0 → IsSlotOf sector1 slot1
    → (root : Root) → IsCurrent sector0 sector1 root → chosen slot0 slot1 ≡ Ok root
chosen_from_current s0 s1 (Good first) Empty is0 is1 root (inl first_alone) =
    let same : first ≡ root = one_root s0 first root is0 first_alone.0 in
    let none : first.generation ≡ 0 = ap (λ r. r.generation) same ∙ first_alone.1 in
    ok_by_test (eqb first.generation 0) first (ap (λ n. eqb n 0) none) ∙ ap (λ r. Ok r) same
chosen_from_current s0 s1 (Good first) (Good other) is0 is1 root (inl first_alone) = absurd (first_alone.2 (spelt_has_magic s1 other is1))
chosen_from_current s0 s1 (Good first) Bad is0 is1 root (inl first_alone) = absurd (first_alone.2 is1.0)
chosen_from_current s0 s1 Empty slot1 is0 is1 root (inl first_alone) = absurd (is0 (spelt_has_magic s0 root first_alone.0))
chosen_from_current s0 s1 Bad slot1 is0 is1 root (inl first_alone) = absurd (is0.1 root first_alone.0)
chosen_from_current s0 s1 (Good even) (Good odd) is0 is1 root (inr (even', odd', spells0, spells1, successive, keeps, is)) =
    let same0 : even' ≡ even = one_root s0 even' even spells0 is0 in
    let same1 : odd' ≡ odd = one_root s1 odd' odd spells1 is1 in
    let apart : are_neighbours even.generation odd.generation ≡ true =
    test_from_successive even.generation odd.generation (subst (λ r. AreSuccessive r.generation odd.generation) same0 (subst (λ r. AreSuccessive even'.generation r.generation) same1 successive)) in
    let kept : KeepsVersion (earlier even odd) (later even odd) =
    subst (λ r. KeepsVersion (earlier r odd) (later r odd)) same0 (subst (λ r. KeepsVersion (earlier even' r) (later even' r)) same1 keeps) in
    let version = test_from_keeps (version_of (earlier even odd)) (version_of (later even odd)) kept in
    ok_by_test (are_in_row even odd) (later even odd) (rw (apart, version) refl) ∙ ap (λ r. Ok r) (sym (is ∙ ap (λ r. later r odd') same0 ∙ ap (later even) same1))
chosen_from_current s0 s1 (Good even) Empty is0 is1 root (inr (even', odd', spells0, spells1, successive, keeps, is)) = absurd (is1 (spelt_has_magic s1 odd' spells1))
chosen_from_current s0 s1 (Good even) Bad is0 is1 root (inr (even', odd', spells0, spells1, successive, keeps, is)) = absurd (is1.1 odd' spells1)
chosen_from_current s0 s1 Empty slot1 is0 is1 root (inr (even', odd', spells0, spells1, successive, keeps, is)) = absurd (is0 (spelt_has_magic s0 even' spells0))
chosen_from_current s0 s1 Bad slot1 is0 is1 root (inr (even', odd', spells0, spells1, successive, keeps, is)) = absurd (is0.1 even' spells0)

-- if neither sector has the magic, the disk isn't formatted
pub not_formatted : (sector0 sector1 : List ℕ) (slot0 slot1 : Slot) → IsSlotOf sector0 slot0 → IsSlotOf sector1 slot1
    → LacksMagic sector0 → LacksMagic sector1 → chosen slot0 slot1 ≡ Err NotFormatted
not_formatted s0 s1 Empty Empty is0 is1 lacks0 lacks1 = refl
not_formatted s0 s1 Empty (Good root) is0 is1 lacks0 lacks1 = absurd (lacks1 (spelt_has_magic s1 root is1))
not_formatted s0 s1 Empty Bad is0 is1 lacks0 lacks1 = absurd (lacks1 is1.0)
not_formatted s0 s1 (Good root) slot1 is0 is1 lacks0 lacks1 = absurd (lacks0 (spelt_has_magic s0 root is0))
not_formatted s0 s1 Bad slot1 is0 is1 lacks0 lacks1 = absurd (lacks0 is0.0)

-- an answer that depends on a test is never NotFormatted
not_by_test : (test : Bool) (a : Root) → ◌≡◌ {A = Answer} (cond test (Ok a) (Err Damaged)) (Err NotFormatted) → ⊥
not_by_test true a e = absurd cc
not_by_test false a e = absurd cc

pub lack_from_refused : (sector0 sector1 : List ℕ) (slot0 slot1 : Slot) → IsSlotOf sector0 slot0 → IsSlotOf sector1 slot1
    → chosen slot0 slot1 ≡ Err NotFormatted → LacksMagic sector0 × LacksMagic sector1
lack_from_refused s0 s1 Empty Empty is0 is1 e = (is0, is1)
lack_from_refused s0 s1 (Good even) (Good odd) is0 is1 e = absurd (not_by_test (are_in_row even odd) (later even odd) e)
lack_from_refused s0 s1 (Good first) Empty is0 is1 e = absurd (not_by_test (eqb first.generation 0) first e)
lack_from_refused s0 s1 (Good first) Bad is0 is1 e = absurd cc
lack_from_refused s0 s1 Empty (Good other) is0 is1 e = absurd cc
lack_from_refused s0 s1 Empty Bad is0 is1 e = absurd cc
lack_from_refused s0 s1 Bad slot1 is0 is1 e = absurd cc

-- the newer of two roots that are in their slots and one commit apart
pub odd_is_newer : (even odd : Root) (answer : Answer) → slot_of even.generation ≡ 0 → slot_of odd.generation ≡ 1 → abs_diff even.generation odd.generation ≡ 1 → even.generation < odd.generation
    → answer ≡ cond (keeps_version (version_of even) (version_of odd)) (Ok odd) (Err Damaged) → answer ≡ chosen (Good even) (Good odd)
odd_is_newer even odd answer slot0 slot1 apart newer is = rw (slot0, slot1, apart, lt-ltb even.generation odd.generation newer) is

pub even_is_newer : (even odd : Root) (answer : Answer) → slot_of even.generation ≡ 0 → slot_of odd.generation ≡ 1 → abs_diff even.generation odd.generation ≡ 1 → odd.generation ≤ even.generation
    → answer ≡ cond (keeps_version (version_of odd) (version_of even)) (Ok even) (Err Damaged) → answer ≡ chosen (Good even) (Good odd)
even_is_newer even odd answer slot0 slot1 apart newer is = rw (slot0, slot1, apart, le-ltb even.generation odd.generation newer) is
