-- Each PT_LOAD ends before the later ones begin.
use Rattle.std.proofs.Common.{◌≡◌, ℕ, ◌<◌, ◌≤◌, ◌+◌, Bool, true, false, List, [], ◌∷◌, length, arith, drop, get_or, suc, zero}
use Rattle.std.specs.Prelude.{◌||◌}
use Rattle.std.specs.List.{list_any, zip, AllPairs}
use Rattle.std.proofs.lemmas.Bool.Decides.{nat_tests}
use Rattle.elf_file.specs.Segment.{is_out_of_order, has_bad_order, loads}
use Rattle.elf_file.specs.declared.segment.ProgramHeader.{ProgramHeader}

first-in_order : (x y : ProgramHeader) (b : Bool) → (is_out_of_order (x, y) || b) ≡ false → x.address + x.memory_size ≤ y.address
first-in_order x y b none = grind (arith, nat_tests)

rest-in_order : (a b : Bool) → (a || b) ≡ false → b ≡ false
rest-in_order true b none = cc
rest-in_order false b none = none

rising : (xs : List ProgramHeader) → list_any is_out_of_order (zip xs (drop 1 xs)) ≡ false
    → (i j : ℕ) (d : ProgramHeader) → i < j → j < length xs → (get_or xs i d).address + (get_or xs i d).memory_size ≤ (get_or xs j d).address
rising [] none i j d lt in' = absurd (omega (arith, in'))
rising (x ∷ []) none i j d lt in' = absurd (omega (arith, in', lt))
rising (x ∷ y ∷ xs) none i zero d lt in' = absurd (omega (arith, lt))
rising (x ∷ y ∷ xs) none zero (suc zero) d lt in' = first-in_order x y (list_any is_out_of_order (zip (y ∷ xs) xs)) none
rising (x ∷ y ∷ xs) none zero (suc (suc j)) d lt in' =
    omega (
      arith,
      first-in_order x y (list_any is_out_of_order (zip (y ∷ xs) xs)) none,
      rising (y ∷ xs) (rest-in_order (is_out_of_order (x, y)) (list_any is_out_of_order (zip (y ∷ xs) xs)) none) zero (suc j) d (omega arith) (omega (arith, in')),
    )
rising (x ∷ y ∷ xs) none (suc i) (suc j) d lt in' =
    rising (y ∷ xs) (rest-in_order (is_out_of_order (x, y)) (list_any is_out_of_order (zip (y ∷ xs) xs)) none) i j d (omega (arith, lt)) (omega (arith, in'))

-- each PT_LOAD ends at or below the address of each later one
pub loads_rising : (file : List ℕ) → has_bad_order file ≡ false → AllPairs (λ a b. a.address + a.memory_size ≤ b.address) (loads file)
unfolding has_bad_order
loads_rising file none = rising (loads file) none
