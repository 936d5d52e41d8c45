-- The number of PT_LOADs before a program header, and the list of the PT_LOADs that are left.
use Rattle.std.proofs.lemmas.Bool.{cases_lt}
use Rattle.std.proofs.lemmas.Option.{get_or_from_slice_get, slice_get_within}
use Rattle.elf_file.proofs.Order.{loads_rising}
use Rattle.std.proofs.Common.{get_or, inl, inr, ◌≡◌, ℕ, ◌<◌, ◌≤◌, ◌+◌, ◌-◌, Bool, true, false, cond, List, [], ◌∷◌, ◌++◌, length, arith, refl, ◌∙◌}
use Rattle.std.proofs.Common.{sym, ap, Some, filter, map, suc, zero, zero-add, add-zero, length-append}
use Rattle.std.specs.List.{range_with_len}
use Rattle.std.specs.Prelude.{slice_get}
use Rattle.std.proofs.lemmas.List.Elements.{filter-append}
use Rattle.std.proofs.lemmas.List.FromFn.{filter_of_map_range_with_len_more}
use Rattle.elf_file.specs.Header.{header_count}
use Rattle.elf_file.specs.Segment.{program_header, is_load, loads, has_bad_order}
use Rattle.elf_file.specs.inside.Index.{loads_before, loads_from}
use Rattle.elf_file.specs.declared.segment.ProgramHeader.{ProgramHeader}

pub range-split : (a m n : ℕ) → range_with_len a (m + n) ≡ range_with_len a m ++ range_with_len (a + m) n
range-split a zero n = ap (range_with_len a) (zero-add n) ∙ ap (λ b. range_with_len b n) (sym (add-zero a))
range-split a (suc m) n =
    let e : suc m + n ≡ suc (m + n) = omega arith in
    let f : a + 1 + m ≡ a + suc m = omega arith in
    ap (range_with_len a) e ∙ ap (λ t. a ∷ t) (range-split (a + 1) m n ∙ ap (λ b. range_with_len (a + 1) m ++ range_with_len b n) f)

pub map-append : {X Y : Type 0} (f : X → Y) (xs ys : List X) → map f (xs ++ ys) ≡ map f xs ++ map f ys
map-append f [] ys = refl
map-append f (x ∷ xs) ys = ap (λ t. f x ∷ t) (map-append f xs ys)

middle : {X : Type 0} (xs ys : List X) (y : X) → slice_get (xs ++ y ∷ ys) (length xs) ≡ Some y
middle [] ys y = refl
middle (x ∷ xs) ys y = middle xs ys y

length-cond : {X : Type 0} (b : Bool) (x : X) → length (cond b (x ∷ []) []) ≡ cond b 1 0
length-cond true x = refl
length-cond false x = refl

-- one more PT_LOAD comes before the next program header if this header is a PT_LOAD
pub loads_before_more : (file : List ℕ) (k : ℕ) → loads_before file (k + 1) ≡ loads_before file k + cond (is_load (program_header file k)) 1 0
unfolding loads_before
loads_before_more file k =
    ap length (filter_of_map_range_with_len_more is_load (program_header file) 0 k k (zero-add k))
    ∙ length-append (filter is_load (map (program_header file) (range_with_len 0 k))) (cond (is_load (program_header file k)) (program_header file k ∷ []) [])
    ∙ ap (λ n. length (filter is_load (map (program_header file) (range_with_len 0 k))) + n) (length-cond (is_load (program_header file k)) (program_header file k))

-- the number of a PT_LOAD is the number of PT_LOADs before it
pub load_at : (file : List ℕ) (j : ℕ) → j < header_count file → is_load (program_header file j) ≡ true
    → slice_get (loads file) (loads_before file j) ≡ Some (program_header file j)
unfolding loads_before loads
load_at file j lt is =
    let n : ℕ = header_count file - j - 1 in
    let whole : header_count file ≡ j + suc n = omega arith in
    let front : List ProgramHeader = filter is_load (map (program_header file) (range_with_len 0 j)) in
    let back : List ProgramHeader = filter is_load (map (program_header file) (range_with_len (j + 1) n)) in
    let split : filter is_load (map (program_header file) (range_with_len 0 (header_count file))) ≡ front ++ cond (is_load (program_header file j)) (program_header file j ∷ back) back =
    ap (λ m. filter is_load (map (program_header file) (range_with_len 0 m))) whole
    ∙ ap (λ r. filter is_load (map (program_header file) r)) (range-split 0 j (suc n) ∙ ap (λ a. range_with_len 0 j ++ range_with_len a (suc n)) (zero-add j))
    ∙ ap (filter is_load) (map-append (program_header file) (range_with_len 0 j) (range_with_len j (suc n)))
    ∙ filter-append is_load (map (program_header file) (range_with_len 0 j)) (map (program_header file) (range_with_len j (suc n))) in
    ap (λ l. slice_get l (length front)) (split ∙ ap (λ b. front ++ cond b (program_header file j ∷ back) back) is) ∙ middle front back (program_header file j)

-- the number of PT_LOADs before a program header never becomes smaller
pub loads_before_rises : (file : List ℕ) (i d : ℕ) → loads_before file i ≤ loads_before file (i + d)
loads_before_rises file i zero = omega (arith, ap (loads_before file) (add-zero i))
loads_before_rises file i (suc d) =
    let e : i + suc d ≡ i + d + 1 = omega arith in
    omega (arith, loads_before_rises file i d, loads_before_more file (i + d), ap (loads_before file) e)

-- there are fewer PT_LOADs before a PT_LOAD than before a later program header
pub loads_before_less : (file : List ℕ) (i j : ℕ) → i < j → is_load (program_header file i) ≡ true → loads_before file i < loads_before file j
loads_before_less file i j lt is =
    let d : ℕ = j - (i + 1) in
    let e : i + 1 + d ≡ j = omega arith in
    let more : loads_before file (i + 1) ≡ loads_before file i + 1 = loads_before_more file i ∙ ap (λ b. loads_before file i + cond b 1 0) is in
    omega (arith, more, loads_before_rises file (i + 1) d, ap (loads_before file) e)

-- a PT_LOAD ends at or below the address of each later one
pub loads_apart : (file : List ℕ) (i j : ℕ) → has_bad_order file ≡ false → i < j → j < header_count file
    → is_load (program_header file i) ≡ true → is_load (program_header file j) ≡ true
    → (program_header file i).address + (program_header file i).memory_size ≤ (program_header file j).address
loads_apart file i j order lt within is1 is2 =
    let d : ProgramHeader = program_header file i in
    let at1 = load_at file i (omega (arith, lt, within)) is1 in
    let at2 = load_at file j within is2 in
    let h = loads_rising file order (loads_before file i) (loads_before file j) d (loads_before_less file i j lt is1)
    (slice_get_within (loads file) (loads_before file j) (program_header file j) at2) in
    let a : get_or (loads file) (loads_before file i) d ≡ program_header file i = get_or_from_slice_get (loads file) (loads_before file i) (program_header file i) d at1 in
    let b : get_or (loads file) (loads_before file j) d ≡ program_header file j = get_or_from_slice_get (loads file) (loads_before file j) (program_header file j) d at2 in
    omega (arith, h, ap (λ x. x.address + x.memory_size) a, ap (λ x. x.address) b)

-- a later PT_LOAD doesn't have a lower address
pub loads_rise : (file : List ℕ) (i j : ℕ) → has_bad_order file ≡ false → i ≤ j → j < header_count file
    → is_load (program_header file i) ≡ true → is_load (program_header file j) ≡ true
    → (program_header file i).address ≤ (program_header file j).address
loads_rise file i j order le within is1 is2 =
    elim (cases_lt i j) [
      | inl lt ↦ omega (arith, loads_apart file i j order lt within is1 is2)
      | inr ge ↦ let e : i ≡ j = omega arith in omega (arith, ap (λ k. (program_header file k).address) e)
    ]

from-one : (file : List ℕ) (k : ℕ) (b : Bool) → k < header_count file → is_load (program_header file k) ≡ b
    → loads_from file k ≡ cond b (program_header file k ∷ loads_from file (k + 1)) (loads_from file (k + 1))
unfolding loads_from
from-one file k b lt is =
    let e : header_count file - k ≡ suc (header_count file - (k + 1)) = omega arith in
    ap (λ n. filter is_load (map (program_header file) (range_with_len k n))) e
    ∙ ap (λ c. cond c (program_header file k ∷ filter is_load (map (program_header file) (range_with_len (k + 1) (header_count file - (k + 1)))))
    (filter is_load (map (program_header file) (range_with_len (k + 1) (header_count file - (k + 1)))))) is

-- if program header k is a PT_LOAD, the PT_LOADs from there on begin with it
pub loads_from_load : (file : List ℕ) (k : ℕ) → k < header_count file → is_load (program_header file k) ≡ true
    → loads_from file k ≡ program_header file k ∷ loads_from file (k + 1)
loads_from_load file k lt is = from-one file k true lt is

skipped : (file : List ℕ) (d from to : ℕ) → from + d ≡ to → to ≤ header_count file
    → ((j : ℕ) → from ≤ j → j < to → is_load (program_header file j) ≡ false) → loads_from file from ≡ loads_from file to
skipped file zero from to e le none = ap (loads_from file) (sym (add-zero from) ∙ e)
skipped file (suc d) from to e le none =
    from-one file from false (omega (arith, e, le)) (none from (omega arith) (omega (arith, e)))
    ∙ skipped file d (from + 1) to (omega (arith, e)) le (λ j ge lt. none j (omega (arith, ge)) lt)

-- if no header between two program headers is a PT_LOAD, the same PT_LOADs are left from both
pub loads_from_skip : (file : List ℕ) (from to : ℕ) → from ≤ to → to ≤ header_count file
    → ((j : ℕ) → from ≤ j → j < to → is_load (program_header file j) ≡ false) → loads_from file from ≡ loads_from file to
loads_from_skip file from to ge le none = skipped file (to - from) from to (omega arith) le none

-- at the end of the program headers, no PT_LOADs are left
pub loads_from_end : (file : List ℕ) (k : ℕ) → k ≡ header_count file → loads_from file k ≡ []
unfolding loads_from
loads_from_end file k e =
    let z : header_count file - k ≡ 0 = omega arith in
    ap (λ n. filter is_load (map (program_header file) (range_with_len k n))) z

-- at the beginning of the program headers, all PT_LOADs are left
pub loads_from_start : (file : List ℕ) → loads_from file 0 ≡ loads file
unfolding loads_from loads
loads_from_start file =
    let z : header_count file - 0 ≡ header_count file = omega arith in
    ap (λ n. filter is_load (map (program_header file) (range_with_len 0 n))) z
