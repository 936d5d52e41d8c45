-- Bytes that lie in the memory part of no PT_LOAD.
use Rattle.std.proofs.Common.{◌≡◌, ℕ, ◌<◌, ◌≤◌, ◌+◌, Bool, true, false, cond, List, ◌∷◌, arith, refl, ap, ◌∙◌, inl, inr, min, map, filter, suc, zero}
use Rattle.std.specs.Prelude.{◌||◌}
use Rattle.std.specs.List.{list_any, range_with_len}
use Rattle.std.proofs.lemmas.Bool.{cases_lt}
use Rattle.std.proofs.lemmas.Bool.Decides.{nat_tests}
use Rattle.elf_file.specs.Header.{header_count}
use Rattle.elf_file.specs.Segment.{program_header, is_load, loads}
use Rattle.elf_file.specs.Address.{is_in_memory_part, is_in_memory}
use Rattle.elf_file.specs.inside.Index.{AllAbove, IsBlockAt}
use Rattle.elf_file.specs.declared.segment.ProgramHeader.{ProgramHeader}
use Rattle.elf_file.specs.declared.load_index.TheConstants.{BLOCK}

outside-above : (address size : ℕ) (h : ProgramHeader) → address < h.address → is_in_memory_part address size h ≡ false
outside-above address size h lt = grind (arith, nat_tests)

outside-below : (address size : ℕ) (h : ProgramHeader) → 0 < size → h.address + h.memory_size ≤ address → is_in_memory_part address size h ≡ false
outside-below address size h some le = grind (arith, nat_tests)

none-step : {X : Type 0} (p q : X → Bool) (x : X) (xs : List X) (b : Bool) → q x ≡ b → (q x ≡ true → p x ≡ false) → list_any p xs ≡ false
    → list_any p (cond b (x ∷ xs) xs) ≡ false
none-step p q x xs true is here rest = ap (λ a. a || list_any p xs) (here is) ∙ rest
none-step p q x xs false is here rest = rest

-- if no element that passes the test `q` passes the test `p`, no element of the filtered list passes `p`
none_made : {X : Type 0} (p q : X → Bool) (f : ℕ → X) (n a : ℕ) → ((j : ℕ) → a ≤ j → j < a + n → q (f j) ≡ true → p (f j) ≡ false)
    → list_any p (filter q (map f (range_with_len a n))) ≡ false
none_made p q f zero a none = refl
none_made p q f (suc n) a none =
    none-step p q (f a) (filter q (map f (range_with_len (a + 1) n))) (q (f a)) refl (none a (omega arith) (omega arith))
    (none_made p q f n (a + 1) (λ j ge lt. none j (omega (arith, ge)) (omega (arith, lt))))

-- if no PT_LOAD has the bytes in its memory part, by the numbers of the program headers, they don't lie
-- in memory
not_in_memory : (file : List ℕ) (address size : ℕ)
    → ((j : ℕ) → j < header_count file → is_load (program_header file j) ≡ true → is_in_memory_part address size (program_header file j) ≡ false)
    → is_in_memory file address size ≡ false
unfolding is_in_memory loads
not_in_memory file address size none =
    none_made (is_in_memory_part address size) is_load (program_header file) (header_count file) 0 (λ j ge lt is. none j (omega (arith, lt)) is)

-- if all PT_LOADs begin above an address, no bytes at this address lie in memory
pub none_above : (file : List ℕ) (address size : ℕ) → AllAbove file address 0 → is_in_memory file address size ≡ false
none_above file address size above =
    not_in_memory file address size (λ j lt is. outside-above address size (program_header file j) (above j (omega arith) lt is))

-- if no PT_LOAD of the block has the bytes in its memory part, no PT_LOAD has them
pub none_in_block : (file : List ℕ) (address size first : ℕ) → 0 < size → IsBlockAt file address first
    → ((j : ℕ) → first ≤ j → j < min (header_count file) (first + BLOCK) → is_load (program_header file j) ≡ true
    → is_in_memory_part address size (program_header file j) ≡ false)
    → is_in_memory file address size ≡ false
none_in_block file address size first some block none =
    not_in_memory file address size (λ j lt is.
    elim (cases_lt j first) [
      | inl low ↦ outside-below address size (program_header file j) some (block.1 j low is)
      | inr from ↦ elim (cases_lt j (first + BLOCK)) [
        | inl near ↦ none j from (omega (arith, near, lt)) is
        | inr far ↦ outside-above address size (program_header file j) (block.2 j far lt is)
      ]
    ])
