use Rattle.std.proofs.Common.{◌≡◌, ◌≢◌, ℕ, ◌<◌, arith, ap, sym, ◌∙◌, Some, inl, inr, true, false, cond, subst, length, get_or, set, get_or-set_same, get_or-set_other, List, [], ◌∷◌}
use Rattle.std.proofs.lemmas.Bool.Decides.{nat_tests}
use Rattle.std.proofs.lemmas.Bool.{cases_eq}
use Rattle.std.proofs.lemmas.List.{get_or_default}
use Rattle.elf_file.specs.Constant.{DT_NEEDED, DT_PLTRELSZ, DT_HASH, DT_STRTAB, DT_SYMTAB, DT_RELA, DT_RELASZ, DT_RELAENT, DT_STRSZ, DT_SYMENT}
use Rattle.elf_file.specs.Constant.{DT_SONAME, DT_SYMBOLIC, DT_REL, DT_PLTREL, DT_JMPREL, DT_FLAGS, DT_RELR, DT_VERSYM, DT_VERDEF, DT_VERNEED}
use Rattle.elf_file.specs.Dynamic.{has_tag}
use Rattle.elf_file.specs.declared.entry.Entry.{Entry}
use Rattle.elf_file.specs.inside.Tags.{place_of, slot_and, slot_more}
use Rattle.elf_file.specs.declared.tag_table.Slot.{Slot}
use Rattle.elf_file.proofs.tag_table.TagTable.add.Goals as goal

-- the tags of the table, in the order of their places
tags : List ℕ
tags =
    DT_NEEDED ∷ DT_PLTRELSZ ∷ DT_HASH ∷ DT_STRTAB ∷ DT_SYMTAB ∷ DT_RELA ∷ DT_RELASZ ∷ DT_RELAENT ∷ DT_STRSZ ∷ DT_SYMENT
    ∷ DT_SONAME ∷ DT_SYMBOLIC ∷ DT_REL ∷ DT_PLTREL ∷ DT_JMPREL ∷ DT_FLAGS ∷ DT_RELR ∷ DT_VERSYM ∷ DT_VERDEF ∷ DT_VERNEED ∷ []

-- if a tag has the place k, it is element k of this list
tag_at : (n k : ℕ) → place_of n ≡ Some k → get_or tags k 0 ≡ n
unfolding tags
tag_at n k at = grind (arith, nat_tests)

true-by : (e : Entry) (n : ℕ) → e.tag ≡ n → has_tag n e ≡ true
true-by e n h = grind (arith, nat_tests)

false-by : (e : Entry) (n : ℕ) → e.tag ≢ n → has_tag n e ≡ false
false-by e n h = grind (arith, nat_tests)

-- the slot at the place of an entry's tag is right after the entry was added
same-place : (slots : List Slot) (e : Entry) (n k : ℕ) (v d : Slot) → k < length slots → e.tag ≡ n → v ≡ slot_more e.value (get_or slots k (record { count = 0; value = 0 }))
    → get_or (set slots k v) k d ≡ slot_and n e (get_or slots k d)
same-place slots e n k v d room is made =
    get_or-set_same slots k v d room
    ∙ made
    ∙ ap (slot_more e.value) (get_or_default slots k (record { count = 0; value = 0 }) d room)
    ∙ sym (ap (λ b. cond b (slot_more e.value (get_or slots k d)) (get_or slots k d)) (true-by e n is))

-- the slot at any other place is right after the entry was added, unchanged
other-place : (slots : List Slot) (e : Entry) (n j k : ℕ) (v d : Slot) → k ≢ j → e.tag ≢ n → get_or (set slots j v) k d ≡ slot_and n e (get_or slots k d)
other-place slots e n j k v d other not-it =
    get_or-set_other slots j k v d other ∙ sym (ap (λ b. cond b (slot_more e.value (get_or slots k d)) (get_or slots k d)) (false-by e n not-it))

pub returns-in-Some : goal.returns-in-Some
returns-in-Some c = λ n k d at.
    let slots : List Slot = c.args.self.now.slots in
    let e : Entry = c.args.entry in
    let j : ℕ = c.in-Some.k in
    let here : place_of e.tag ≡ Some j = sym c.place_of.ensures.ok ∙ c.in-Some.is in
    let room : j < length slots = omega (arith, c.in-Some.ensures.within) in
    elim (cases_eq j k) [
      | inl same ↦
          let tag : e.tag ≡ n = sym (tag_at e.tag j here) ∙ ap (λ i. get_or tags i 0) same ∙ tag_at n k at in
          subst (λ (i : ℕ). get_or (set slots j c.and.result) i d ≡ slot_and n e (get_or slots i d)) same
          (same-place slots e n j c.and.result d room tag c.and.ensures)
      | inr other ↦
          let not-it : e.tag ≢ n = λ tag. other (some-is (sym here ∙ ap place_of tag ∙ at)) in
          other-place slots e n j k c.and.result d (λ is. other (sym is)) not-it
    ]
  where
    some-is : {a b : ℕ} → Some a ≡ Some b → a ≡ b
    some-is h = cc
