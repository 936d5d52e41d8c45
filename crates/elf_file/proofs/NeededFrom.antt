-- The offsets of needed libraries' names that are left from an entry on.
use Rattle.std.proofs.Common.{◌≡◌, ℕ, ◌<◌, ◌≤◌, ◌+◌, ◌-◌, Bool, true, false, cond, List, [], ◌∷◌, length, arith, ◌∙◌, sym, ap, filter, map, suc, zero, add-zero, refl, subst}
use Rattle.std.specs.List.{range_with_len}
use Rattle.std.proofs.lemmas.List.Sums.{length-filter}
use Rattle.std.proofs.lemmas.List.{length-map}
use Rattle.elf_file.specs.Constant.{DT_NEEDED}
use Rattle.elf_file.specs.Dynamic.{entry, has_tag, entries_in, entries, dynamic_section, needed_offsets, tag_count}
use Rattle.elf_file.specs.inside.Needed.{is_needed, values_from}
use Rattle.elf_file.specs.declared.entry.Entry.{Entry}

rest : List ℕ → ℕ → ℕ → List Entry
rest section count k = filter (has_tag DT_NEEDED) (map (entry section) (range_with_len k (count - k)))

pick : (b : Bool) (e : Entry) (es : List Entry) → map (λ (x : Entry). x.value) (cond b (e ∷ es) es) ≡ cond b (e.value ∷ map (λ (x : Entry). x.value) es) (map (λ (x : Entry). x.value) es)
pick true e es = refl
pick false e es = refl

from-one : (section : List ℕ) (count k : ℕ) (b : Bool) → k < count → is_needed section k ≡ b
    → values_from section count k ≡ cond b ((entry section k).value ∷ values_from section count (k + 1)) (values_from section count (k + 1))
unfolding values_from rest
from-one section count k b lt is =
    let e : count - k ≡ suc (count - (k + 1)) = omega arith in
    ap (λ n. map (λ (x : Entry). x.value) (filter (has_tag DT_NEEDED) (map (entry section) (range_with_len k n)))) e
    ∙ ap (λ c. map (λ (x : Entry). x.value) (cond c (entry section k ∷ rest section count (k + 1)) (rest section count (k + 1)))) is
    ∙ pick b (entry section k) (rest section count (k + 1))

-- if entry k has the tag DT_NEEDED, the values that are left begin with its value
pub values_from_needed : (section : List ℕ) (count k : ℕ) → k < count → is_needed section k ≡ true
    → values_from section count k ≡ (entry section k).value ∷ values_from section count (k + 1)
values_from_needed section count k lt is = from-one section count k true lt is

skipped : (section : List ℕ) (count d from to : ℕ) → from + d ≡ to → to ≤ count
    → ((j : ℕ) → from ≤ j → j < to → is_needed section j ≡ false) → values_from section count from ≡ values_from section count to
skipped section count zero from to e le none = ap (values_from section count) (sym (add-zero from) ∙ e)
skipped section count (suc d) from to e le none =
    from-one section count from false (omega (arith, e, le)) (none from (omega arith) (omega (arith, e)))
    ∙ skipped section count d (from + 1) to (omega (arith, e)) le (λ j ge lt. none j (omega (arith, ge)) lt)

-- if no entry between two entries has the tag DT_NEEDED, the same values are left from both
pub values_from_skip : (section : List ℕ) (count from to : ℕ) → from ≤ to → to ≤ count
    → ((j : ℕ) → from ≤ j → j < to → is_needed section j ≡ false) → values_from section count from ≡ values_from section count to
values_from_skip section count from to ge le none = skipped section count (to - from) from to (omega arith) le none

-- at the end of the entries, no values are left
pub values_from_end : (section : List ℕ) (count k : ℕ) → k ≡ count → values_from section count k ≡ []
unfolding values_from
values_from_end section count k e =
    let z : count - k ≡ 0 = omega arith in
    ap (λ n. map (λ (x : Entry). x.value) (filter (has_tag DT_NEEDED) (map (entry section) (range_with_len k n)))) z

-- at the first entry, all values are left
pub values_from_start : (file section : List ℕ) (count : ℕ) → section ≡ dynamic_section file
    → entries file ≡ map (entry (dynamic_section file)) (range_with_len 0 count) → values_from section count 0 ≡ needed_offsets file
unfolding values_from needed_offsets
values_from_start file section count same all =
    let z : count - 0 ≡ count = omega arith in
    ap (λ n. map (λ (x : Entry). x.value) (filter (has_tag DT_NEEDED) (map (entry section) (range_with_len 0 n)))) z
    ∙ ap (λ s. map (λ (x : Entry). x.value) (filter (has_tag DT_NEEDED) (map (entry s) (range_with_len 0 count)))) same
    ∙ ap (λ es. map (λ (x : Entry). x.value) (filter (has_tag DT_NEEDED) es)) (sym all)

-- the entries of a file are those of its section
pub entries_kept : (file section : List ℕ) (count : ℕ) → section ≡ dynamic_section file → entries_in section ≡ map (entry section) (range_with_len 0 count)
    → entries file ≡ map (entry (dynamic_section file)) (range_with_len 0 count)
unfolding entries
entries_kept file section count same kept = subst (λ (s : List ℕ). entries_in s ≡ map (entry s) (range_with_len 0 count)) same kept

-- the number of DT_NEEDED entries is the number of needed libraries
pub needed_counted : (file : List ℕ) → tag_count file DT_NEEDED ≡ length (needed_offsets file)
unfolding tag_count needed_offsets
needed_counted file =
    sym (length-map (filter (has_tag DT_NEEDED) (entries file)) (λ (x : Entry). x.value) ∙ length-filter (has_tag DT_NEEDED) (entries file))
