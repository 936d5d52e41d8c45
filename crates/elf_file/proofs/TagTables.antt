-- One pass over the entries of the dynamic section makes the table of the tags.
use Rattle.std.proofs.Common.{length, ◌≡◌, ◌≢◌, ℕ, ◌<◌, ◌≤◌, ◌+◌, ◌-◌, ◌/◌, Bool, true, false, cond, List, [], ◌∷◌, ◌++◌, arith, refl, ◌∙◌, sym, ap}
use Rattle.std.proofs.Common.{map, get_or, zero-add, add-zero, zero, suc, Option, Some, None}
use Rattle.std.specs.Prelude.{not, ◌||◌, ◌==◌, nat_lt, take_while, count_by, unwrap_or, is_some}
use Rattle.std.specs.Option.{option_map, option_or}
use Rattle.std.specs.List.{list_any, range_with_len, find}
use Rattle.std.proofs.lemmas.Bool.Decides.{nat_tests}
use Rattle.std.proofs.lemmas.List.FromFn.{length-map-range_with_len, map-range_with_len_more}
use Rattle.std.proofs.lemmas.List.Folds.{find-append, list_any-append}
use Rattle.std.proofs.lemmas.List.Sums.{count_by-le-length, sum_by-append, sum_by-cons, take_while-cons}
use Rattle.elf_file.specs.Constant.{DT_NULL, DYNAMIC_ENTRY_SIZE}
use Rattle.elf_file.specs.Dynamic.{entries, tag_count, is_present, find_entry, entry, is_null, has_tag, is_ended, whole_entries, entries_in}
use Rattle.elf_file.specs.inside.Tags.{place_of, slot_of, slot_and, IsTable}
use Rattle.elf_file.specs.declared.entry.Entry.{Entry}
use Rattle.elf_file.specs.declared.tag_table.Slot.{Slot}
use Rattle.elf_file.proofs.LoadNumbers.{range-split, map-append}

-- the first i entries
abbrev pub first_entries : List ℕ → ℕ → List Entry
first_entries section i = map (entry section) (range_with_len 0 i)

abbrev slot : ℕ → ℕ → Slot
slot n v = record { count = n; value = v }

abbrev first_value : Option Entry → ℕ
first_value o = unwrap_or (option_map (λ e. e.value) o) 0

count-cons : {X : Type 0} (p : X → Bool) (x : X) (xs : List X) → nat_lt 0 (count_by p (x ∷ xs)) ≡ nat_lt 0 (cond (p x) 1 0 + count_by p xs)
count-cons p x xs = ap (nat_lt 0) (sum_by-cons (λ y. cond (p y) 1 0) x xs)

found-step : {X : Type 0} (x : X) (b : Bool) (n : ℕ) (o : Option X) → nat_lt 0 n ≡ is_some o → nat_lt 0 (cond b 1 0 + n) ≡ is_some (cond b (Some x) o)
found-step x true n o h = grind (arith, nat_tests)
found-step x false n o h = ap (nat_lt 0) (zero-add n) ∙ h

-- a search finds an element that passes a test exactly if more than 0 elements pass
found-count : {X : Type 0} (p : X → Bool) (xs : List X) → nat_lt 0 (count_by p xs) ≡ is_some (find p xs)
found-count p [] = refl
found-count p (x ∷ xs) = count-cons p x xs ∙ found-step x (p x) (count_by p xs) (find p xs) (found-count p xs)

-- a tag is present exactly if more than 0 entries have it
pub present : (file : List ℕ) (tag : ℕ) → nat_lt 0 (tag_count file tag) ≡ is_present file tag
unfolding tag_count find_entry
present file tag = found-count (has_tag tag) (entries file)

more-than-none : (n : ℕ) → (suc n == 0) ≡ false
more-than-none n = grind (arith, nat_tests)

-- the slot of a tag stays right after one more entry, whether the entry has the tag or not
slot-step : (n : ℕ) (o : Option Entry) (e : Entry) (b : Bool) → nat_lt 0 n ≡ is_some o
    → cond b (slot (n + 1) (cond (n == 0) e.value (first_value o))) (slot n (first_value o))
    ≡ slot (n + cond b 1 0) (first_value (option_or o (cond b (Some e) None)))
slot-step (suc n) (Some x) e true h = ap (λ b. slot (suc n + 1) (cond b e.value x.value)) (more-than-none n)
slot-step zero (Some x) e b h = cc
slot-step zero None e true h = refl
slot-step (suc n) None e b h = grind (arith, nat_tests)
slot-step n (Some x) e false h = ap (λ m. slot m x.value) (sym (add-zero n))
slot-step n None e false h = ap (λ m. slot m 0) (sym (add-zero n))

count-one : (tag : ℕ) (es : List Entry) (e : Entry) → count_by (has_tag tag) (es ++ e ∷ []) ≡ count_by (has_tag tag) es + cond (has_tag tag e) 1 0
count-one tag es e =
    sum_by-append (λ x. cond (has_tag tag x) 1 0) es (e ∷ [])
    ∙ ap (λ m. count_by (has_tag tag) es + m) (sum_by-cons (λ x. cond (has_tag tag x) 1 0) e [] ∙ add-zero (cond (has_tag tag e) 1 0))

-- if an entry is added to the slot of a tag, the result is the slot of the entries with this one
slot-more : (es : List Entry) (e : Entry) (tag : ℕ) → slot_and tag e (slot_of es tag) ≡ slot_of (es ++ e ∷ []) tag
slot-more es e tag =
    slot-step (count_by (has_tag tag) es) (find (has_tag tag) es) e (has_tag tag e) (found-count (has_tag tag) es)
    ∙ ap (λ n. slot n (first_value (option_or (find (has_tag tag) es) (cond (has_tag tag e) (Some e) None)))) (sym (count-one tag es e))
    ∙ ap (λ o. slot (count_by (has_tag tag) (es ++ e ∷ [])) (first_value o)) (sym (find-append (has_tag tag) es (e ∷ [])))

one-more : (section : List ℕ) (i : ℕ) → first_entries section (i + 1) ≡ first_entries section i ++ entry section i ∷ []
one-more section i = map-range_with_len_more (entry section) 0 i i (zero-add i)

-- the table stays right after one more entry
pub table-more : (section : List ℕ) (i : ℕ) (old new : List Slot) → IsTable (first_entries section i) old
    → ((n k : ℕ) (d : Slot) → place_of n ≡ Some k → get_or new k d ≡ slot_and n (entry section i) (get_or old k d))
    → IsTable (first_entries section (i + 1)) new
table-more section i old new is step n k d at =
    step n k d at
    ∙ ap (slot_and n (entry section i)) (is n k d at)
    ∙ slot-more (first_entries section i) (entry section i) n
    ∙ ap (λ es. slot_of es n) (sym (one-more section i))

-- the table never counts more entries with a tag than there are entries
pub table-small : (section : List ℕ) (i : ℕ) (slots : List Slot) → IsTable (first_entries section i) slots
    → (n k : ℕ) (d : Slot) → place_of n ≡ Some k → (get_or slots k d).count ≤ i
table-small section i slots is n k d at =
    let e : (get_or slots k d).count ≡ count_by (has_tag n) (first_entries section i) = ap (λ s. s.count) (is n k d at) in
    omega (arith, e, count_by-le-length (has_tag n) (first_entries section i), length-map-range_with_len (entry section) 0 i)

null-by : (e : Entry) → e.tag ≡ DT_NULL → is_null e ≡ true
null-by e h = grind (arith, nat_tests)

no_null-by : (e : Entry) → e.tag ≢ DT_NULL → is_null e ≡ false
no_null-by e h = grind (arith, nat_tests)

or-false : (a b : Bool) → a ≡ false → b ≡ false → (a || (b || false)) ≡ false
or-false true b h k = cc
or-false false true h k = cc
or-false false false h k = refl

or-true : (a b c : Bool) → b ≡ true → (a || (b || c)) ≡ true
or-true true b c h = refl
or-true false true c h = refl
or-true false false c h = cc

-- if an entry isn't a DT_NULL, the entries with it still have no DT_NULL
pub none-more : (section : List ℕ) (i : ℕ) → list_any is_null (first_entries section i) ≡ false → (entry section i).tag ≢ DT_NULL → list_any is_null (first_entries section (i + 1)) ≡ false
none-more section i none other =
    ap (list_any is_null) (one-more section i)
    ∙ list_any-append is_null (first_entries section i) (entry section i ∷ [])
    ∙ or-false (list_any is_null (first_entries section i)) (is_null (entry section i)) none (no_null-by (entry section i) other)

stop-step : {X : Type 0} (y : X) (xs rest : List X) (b c : Bool) → (b || c) ≡ false → (c ≡ false → rest ≡ xs) → cond (not b) (y ∷ rest) [] ≡ y ∷ xs
stop-step y xs rest true c h more = cc
stop-step y xs rest false c h more = ap (λ t. y ∷ t) (more h)

stop : {X : Type 0} (bad : X → Bool) (xs ys : List X) (x : X) → list_any bad xs ≡ false → bad x ≡ true → take_while (λ e. not (bad e)) (xs ++ x ∷ ys) ≡ xs
stop bad [] ys x none is =
    take_while-cons (λ e. not (bad e)) x ys ∙ ap (λ b. cond (not b) (x ∷ take_while (λ e. not (bad e)) ys) []) is
stop bad (y ∷ xs) ys x none is =
    take_while-cons (λ e. not (bad e)) y (xs ++ x ∷ ys)
    ∙ stop-step y xs (take_while (λ e. not (bad e)) (xs ++ x ∷ ys)) (bad y) (list_any bad xs) none (λ rest. stop bad xs ys x rest is)

-- the entries are those before entry number `i`, that entry, and those after it
split : (section : List ℕ) (i : ℕ) → i < length section / DYNAMIC_ENTRY_SIZE
    → whole_entries section ≡ first_entries section i ++ (entry section i ∷ map (entry section) (range_with_len (i + 1) (length section / DYNAMIC_ENTRY_SIZE - i - 1)))
unfolding whole_entries
split section i lt =
    let n : ℕ = length section / DYNAMIC_ENTRY_SIZE - i - 1 in
    let whole : length section / DYNAMIC_ENTRY_SIZE ≡ i + suc n = omega arith in
    ap (λ m. map (entry section) (range_with_len 0 m)) whole
    ∙ ap (map (entry section)) (range-split 0 i (suc n) ∙ ap (λ a. range_with_len 0 i ++ range_with_len a (suc n)) (zero-add i))
    ∙ map-append (entry section) (range_with_len 0 i) (range_with_len i (suc n))

-- if the first DT_NULL is entry number `i`, the section has an end, and its entries are those before
-- number `i`
pub ended : (section : List ℕ) (i : ℕ) → i < length section / DYNAMIC_ENTRY_SIZE → list_any is_null (first_entries section i) ≡ false → (entry section i).tag ≡ DT_NULL
    → (is_ended section ≡ true) × (first_entries section i ≡ entries_in section)
unfolding is_ended entries_in
ended section i lt none is =
    let behind = map (entry section) (range_with_len (i + 1) (length section / DYNAMIC_ENTRY_SIZE - i - 1)) in
    let null = null-by (entry section i) is in (
      ap (list_any is_null) (split section i lt)
          ∙ list_any-append is_null (first_entries section i) (entry section i ∷ behind)
          ∙ or-true (list_any is_null (first_entries section i)) (is_null (entry section i)) (list_any is_null behind) null,
      sym (ap (take_while (λ e. not (is_null e))) (split section i lt) ∙ stop is_null (first_entries section i) behind (entry section i) none null),
    )

-- if no entry is a DT_NULL, the section has no end
pub not_ended : (section : List ℕ) (n : ℕ) → n ≡ length section / DYNAMIC_ENTRY_SIZE → list_any is_null (first_entries section n) ≡ false → is_ended section ≡ false
unfolding is_ended whole_entries
not_ended section n all none = ap (λ m. list_any is_null (first_entries section m)) (sym all) ∙ none
