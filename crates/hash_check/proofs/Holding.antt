-- Names get their numbers string by string, while marks record the numbers of names by their lengths.
use Rattle.std.proofs.Common.{◌≡◌, ◌≢◌, ℕ, ◌<◌, ◌≤◌, ◌+◌, ◌-◌, ◌⊎◌, false, List, [], length, take, reverse, arith, ◌∙◌, sym, ap, subst, inl, inr, get_or, set}
use Rattle.std.specs.Cmp.Lexicographic.{slice_cmp}
use Rattle.std.specs.Ordering.{nat_cmp, is_lt}
use Rattle.std.specs.List.Sorted.{IsPermutation}
use Rattle.std.proofs.lemmas.Bool.{cases_lt, cases_eq}
use Rattle.std.proofs.lemmas.List.{take-take, length-take, length-reverse, length-set, get_or-set_same, get_or-set_other, get_or_default, reverse-reverse}
use Rattle.std.proofs.lemmas.List.Sorted.{All-permutation, Contains-permutation}
use Rattle.hash_check.specs.Numbers.{nth_text, AreNumbers}
use Rattle.hash_check.specs.inside.Endings.{back, IsIn, IsEnding, AreEndings, AreNone, AreHeld}
use Rattle.hash_check.specs.declared.endings.Ending.{Ending}
use Rattle.hash_check.proofs.Backs.{front-stays, front-before, order-through}

-- reordered endings are endings of the same names
pub endings-moved : (names : List (List ℕ)) (xs ys : List Ending) → IsPermutation xs ys → AreEndings names xs → AreEndings names ys
endings-moved names xs ys moved h = record {
  each = All-permutation (IsEnding names) xs ys moved h.each;
  all = λ k lt.
      let a = h.all k lt in
      let c = Contains-permutation xs ys a.1 moved (a.0, a.2, a.3) in
      (c.0, a.1, c.1, c.2, a.4);
}

-- a list whose first elements are another list is at least as long as that list
front-fits : (xs p : List ℕ) → take (length p) xs ≡ p → length p ≤ length xs
front-fits xs p is = omega (arith, length-take (length p) xs, ap length is)

cut-twice : (m n : ℕ) (xs ys : List ℕ) → m ≤ n → take n xs ≡ take n ys → take m xs ≡ take m ys
cut-twice m n xs ys le same = sym (take-take m n xs le) ∙ ap (take m) same ∙ take-take m n ys le

-- if there are no marks and no numbers, `AreHeld` is true of the empty string
pub held-none : (names : List (List ℕ)) (marks numbers : List ℕ) → length numbers ≡ length names → AreNone marks → AreNone numbers → AreHeld names [] marks numbers
held-none names marks numbers size no-marks none = record {
  size = size;
  short = λ n some. absurd (some (no-marks n));
  there = λ n. omega (arith, no-marks n);
  marked = λ n some. absurd (some (no-marks n));
  below = λ k some. absurd (some (none k));
  held = λ k some front. absurd (some (none k));
  within = λ k. omega (arith, none k);
  same = λ k some. absurd (some (none k));
  one = λ j k some other same. absurd (some (none j));
}

-- `AreHeld` stays true from one string to one that doesn't come before it, if the marks for more bytes
-- than both have in common are removed
pub held-cut : (names : List (List ℕ)) (last next old new numbers : List ℕ) (common : ℕ) → AreHeld names last old numbers → is_lt (slice_cmp nat_cmp next last) ≡ false
    → common ≤ length next → take common last ≡ take common next → ((n : ℕ) → n ≤ length last → n ≤ length next → take n last ≡ take n next → n ≤ common)
    → ((n : ℕ) → n < common + 1 → get_or new n 0 ≡ get_or old n 0) → ((n : ℕ) → common + 1 ≤ n → n < length last + 1 → get_or new n 0 ≡ 0)
    → ((n : ℕ) → length last + 1 ≤ n → get_or new n 0 ≡ get_or old n 0)
    → AreHeld names next new numbers
held-cut names last next old new numbers common h ordered fits agree most low cleared high =
    let early : (n : ℕ) → get_or new n 0 ≢ 0 → (n ≤ common) × (get_or new n 0 ≡ get_or old n 0) =
    λ n some. elim (cases_lt n (common + 1)) [
      | inl less ↦ (omega arith, low n less)
      | inr more ↦ elim (cases_lt n (length last + 1)) [
        | inl less ↦ absurd (some (cleared n more less))
        | inr past ↦
            let kept : get_or new n 0 ≡ get_or old n 0 = high n past in
            let short : n ≤ length last = h.short n (λ none. some (kept ∙ none)) in
            absurd (omega (arith, short, past))
      ]
    ] in
    let was : (k : ℕ) → get_or numbers k 0 ≢ 0 → take (length (back names k)) next ≡ back names k → take (length (back names k)) last ≡ back names k =
    λ k some front. front-stays (back names k) last next (h.below k some) ordered front in
    record {
      size = h.size;
      short = λ n some. omega (arith, (early n some).0, fits);
      there = λ n. elim (cases_eq (get_or new n 0) 0) [
        | inl none ↦ omega (arith, none)
        | inr some ↦ omega (arith, (early n some).1, h.there n)
      ];
      marked = λ n some.
          let e = early n some in
          ap (λ m. back names (m - 1)) e.1 ∙ h.marked n (λ none. some (e.1 ∙ none)) ∙ cut-twice n common last next e.0 agree;
      below = λ k some. order-through (back names k) last next (h.below k some) ordered;
      held = λ k some front.
          let before = was k some front in
          let n : ℕ = length (back names k) in
          let few : length (back names k) ≤ common = most n (front-fits last (back names k) before) (front-fits next (back names k) front) (before ∙ sym front) in
          low n (omega (arith, few)) ∙ h.held k some before;
      within = h.within;
      same = h.same;
      one = h.one;
    }

-- the same for strings that are stored from their first byte on
pub held-next : (names : List (List ℕ)) (last next old new numbers : List ℕ) (common past : ℕ) → past ≡ length last + 1
    → AreHeld names (reverse last) old numbers → is_lt (slice_cmp nat_cmp (reverse next) (reverse last)) ≡ false
    → common ≤ length next → take common (reverse last) ≡ take common (reverse next) → ((n : ℕ) → n ≤ length last → n ≤ length next → take n (reverse last) ≡ take n (reverse next) → n ≤ common)
    → ((n : ℕ) → n < common + 1 → get_or new n 0 ≡ get_or old n 0) → ((n : ℕ) → common + 1 ≤ n → n < past → get_or new n 0 ≡ 0) → ((n : ℕ) → past ≤ n → get_or new n 0 ≡ get_or old n 0)
    → AreHeld names (reverse next) new numbers
held-next names last next old new numbers common past is h ordered fits agree most low cleared high =
    let a : length (reverse last) ≡ length last = length-reverse last in
    let b : length (reverse next) ≡ length next = length-reverse next in
    held-cut names (reverse last) (reverse next) old new numbers common h ordered (omega (arith, fits, b)) agree (λ n x y same. most n (omega (arith, x, a)) (omega (arith, y, b)) same) low
    (λ n x y. cleared n x (omega (arith, y, a, is))) (λ n x. high n (omega (arith, x, a, is)))

-- a name has the same length if it is read from its end
pub back-length : (names : List (List ℕ)) (k : ℕ) → length (nth_text names k) ≡ length (back names k)
unfolding back
back-length names k = sym (length-reverse (nth_text names k))

-- a name of an ending isn't longer than the ending's string
pub room-for : (names : List (List ℕ)) (e : Ending) (k room : ℕ) (bytes : List ℕ) → IsEnding names e → IsIn k e → bytes ≡ nth_text names k → length e.string.now < room → length bytes < room
room-for names e k room bytes ending is text fits =
    omega (arith, ap length text, back-length names k, front-fits (reverse e.string.now) (back names k) (ending.tails k is), length-reverse e.string.now, fits)

-- the bytes that the code reads for name number `k` are those of the name
pub text-read : (names : List (List ℕ)) (e : Ending) (k : ℕ) (bytes read : List ℕ) → IsEnding names e → k < e.past → bytes ≡ read → read ≡ get_or names k read → bytes ≡ nth_text names k
text-read names e k bytes read ending lt same is = same ∙ is ∙ get_or_default names k read [] (omega (arith, lt, ending.within))

put-case : (xs : List ℕ) (i v j : ℕ) → i < length xs → ((j ≡ i) × (get_or (set xs i v) j 0 ≡ v)) ⊎ ((j ≢ i) × (get_or (set xs i v) j 0 ≡ get_or xs j 0))
put-case xs i v j lt = elim (cases_eq j i) [
  | inl same ↦ inl (same, ap (λ k. get_or (set xs i v) k 0) same ∙ get_or-set_same xs i v 0 lt)
  | inr other ↦ inr (other, get_or-set_other xs i j v 0 other)
]

some-told : (marks : List ℕ) (k n told : ℕ) → (get_or marks n 0 ≡ 0 → told ≡ k + 1) → (get_or marks n 0 ≢ 0 → told ≡ get_or marks n 0) → told ≢ 0
some-told marks k n told own marked = elim (cases_eq (get_or marks n 0) 0) [
  | inl none ↦ λ zero. omega (arith, own none, zero)
  | inr mark ↦ λ zero. mark (sym (marked mark) ∙ zero)
]

-- name number k has a number after it was assigned one, and each name that had a number still has it
pub told-here : (marks numbers : List ℕ) (k n told j : ℕ) → k < length numbers → (get_or marks n 0 ≡ 0 → told ≡ k + 1) → (get_or marks n 0 ≢ 0 → told ≡ get_or marks n 0) → j ≡ k
    → get_or (set numbers k told) j 0 ≢ 0
told-here marks numbers k n told j lt own marked same = elim (put-case numbers k told j lt) [
  | inl here ↦ λ none. some-told marks k n told own marked (sym here.1 ∙ none)
  | inr other ↦ absurd (other.0 same)
]

pub told-still : (marks numbers : List ℕ) (k n told j : ℕ) → k < length numbers → (get_or marks n 0 ≡ 0 → told ≡ k + 1) → (get_or marks n 0 ≢ 0 → told ≡ get_or marks n 0) → get_or numbers j 0 ≢ 0
    → get_or (set numbers k told) j 0 ≢ 0
told-still marks numbers k n told j lt own marked some = elim (put-case numbers k told j lt) [
  | inl here ↦ λ none. some-told marks k n told own marked (sym here.1 ∙ none)
  | inr other ↦ λ none. some (sym other.1 ∙ none)
]

-- a name that is a tail of the last string gets the mark for its length, or its own number if there is no mark
pub held-on : (names : List (List ℕ)) (last marks numbers : List ℕ) (k n told : ℕ) → AreHeld names last marks numbers → k < length names → n ≡ length (back names k) → n < length marks
    → take (length (back names k)) last ≡ back names k → (get_or marks n 0 ≡ 0 → told ≡ k + 1) → (get_or marks n 0 ≢ 0 → told ≡ get_or marks n 0)
    → AreHeld names last (set marks n told) (set numbers k told)
held-on names last marks numbers k n told h lt long room front own marked =
    let new-marks : List ℕ = set marks n told in
    let there : k < length numbers = omega (arith, lt, h.size) in
    let whole : take n last ≡ back names k = ap (λ m. take m last) long ∙ front in
    let few : told ≤ length names = elim (cases_eq (get_or marks n 0) 0) [
      | inl none ↦ omega (arith, own none, lt)
      | inr mark ↦ omega (arith, marked mark, h.there n)
    ] in
    let same : back names (told - 1) ≡ back names k = elim (cases_eq (get_or marks n 0) 0) [
      | inl none ↦ let at : told - 1 ≡ k = omega (arith, own none) in ap (back names) at
      | inr mark ↦ ap (λ m. back names (m - 1)) (marked mark) ∙ h.marked n mark ∙ whole
    ] in
    let known : (j : ℕ) → get_or numbers j 0 ≢ 0 → back names j ≡ back names k → get_or numbers j 0 ≡ told =
    λ j has alike.
    let tail : take (length (back names j)) last ≡ back names j = subst (λ b. take (length b) last ≡ b) (sym alike) front in
    let mark : get_or marks n 0 ≡ get_or numbers j 0 = ap (λ m. get_or marks m 0) (long ∙ ap length (sym alike)) ∙ h.held j has tail in
    sym mark ∙ sym (marked (λ none. has (sym mark ∙ none))) in
    record {
      size = length-set numbers k told ∙ h.size;
      short = λ m is. elim (put-case marks n told m room) [
        | inl here ↦ omega (arith, here.0, long, front-fits last (back names k) front)
        | inr other ↦ h.short m (λ none. is (other.1 ∙ none))
      ];
      there = λ m. elim (put-case marks n told m room) [
        | inl here ↦ omega (arith, here.1, few)
        | inr other ↦ omega (arith, other.1, h.there m)
      ];
      marked = λ m is. elim (put-case marks n told m room) [
        | inl here ↦ ap (λ c. back names (c - 1)) here.1 ∙ same ∙ sym whole ∙ ap (λ c. take c last) (sym here.0)
        | inr other ↦ ap (λ c. back names (c - 1)) other.1 ∙ h.marked m (λ none. is (other.1 ∙ none))
      ];
      below = λ j is. elim (put-case numbers k told j there) [
        | inl here ↦ ap (λ b. is_lt (slice_cmp nat_cmp last b)) (ap (back names) here.0 ∙ sym whole) ∙ front-before n last
        | inr other ↦ h.below j (λ none. is (other.1 ∙ none))
      ];
      held = λ j is tail. elim (put-case numbers k told j there) [
        | inl here ↦ ap (λ m. get_or (set marks n told) m 0) (ap (λ i. length (back names i)) here.0 ∙ sym long) ∙ get_or-set_same marks n told 0 room ∙ sym here.1
        | inr other ↦
            let has : get_or numbers j 0 ≢ 0 = λ none. is (other.1 ∙ none) in
            elim (put-case marks n told (length (back names j)) room) [
              | inl at ↦ at.1 ∙ sym (known j has (sym tail ∙ ap (λ m. take m last) at.0 ∙ whole)) ∙ sym other.1
              | inr off ↦ off.1 ∙ h.held j has tail ∙ sym other.1
            ]
      ];
      within = λ j. elim (put-case numbers k told j there) [
        | inl here ↦ omega (arith, here.1, few)
        | inr other ↦ omega (arith, other.1, h.within j)
      ];
      same = λ j is. elim (put-case numbers k told j there) [
        | inl here ↦ ap (λ c. back names (c - 1)) here.1 ∙ same ∙ ap (back names) (sym here.0)
        | inr other ↦ ap (λ c. back names (c - 1)) other.1 ∙ h.same j (λ none. is (other.1 ∙ none))
      ];
      one = λ i j is js alike. elim (put-case numbers k told i there) [
        | inl a ↦ elim (put-case numbers k told j there) [
          | inl b ↦ a.1 ∙ sym b.1
          | inr b ↦ a.1 ∙ sym (known j (λ none. js (b.1 ∙ none)) (sym alike ∙ ap (back names) a.0)) ∙ sym b.1
        ]
        | inr a ↦ elim (put-case numbers k told j there) [
          | inl b ↦ a.1 ∙ known i (λ none. is (a.1 ∙ none)) (alike ∙ ap (back names) b.0) ∙ sym b.1
          | inr b ↦ a.1 ∙ h.one i j (λ none. is (a.1 ∙ none)) (λ none. js (b.1 ∙ none)) alike ∙ sym b.1
        ]
      ];
    }

-- when all names have numbers, the numbers distinguish the names
pub numbers-from-held : (names : List (List ℕ)) (last marks numbers : List ℕ) → AreHeld names last marks numbers → ((k : ℕ) → k < length names → get_or numbers k 0 ≢ 0) → AreNumbers names numbers
unfolding back
numbers-from-held names last marks numbers h all = record {
  size = h.size;
  some = λ k lt. let some : get_or numbers k 0 ≢ 0 = all k lt in omega (arith, some);
  within = λ k lt. h.within k;
  same = λ k lt. sym (reverse-reverse (nth_text names (get_or numbers k 0 - 1))) ∙ ap reverse (h.same k (all k lt)) ∙ reverse-reverse (nth_text names k);
  one = λ j k lj lk same. h.one j k (all j lj) (all k lk) (ap reverse same);
}
