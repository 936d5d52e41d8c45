-- An exported symbol has a number from 1 up to that of the last symbol.
use Rattle.std.proofs.Common.{◌≡◌, ◌≢◌, ℕ, ◌<◌, ◌≤◌, Bool, true, false, List, length, arith, ◌∙◌, sym, ap, inl, inr, eqb, refl, None}
use Rattle.std.specs.Prelude.{not, slice_get}
use Rattle.std.proofs.lemmas.Bool.{cases_lt, eqb-false, and_parts}
use Rattle.std.proofs.lemmas.Option.{slice_get_past}
use Rattle.std.specs.Option.{option_map_or}
use Rattle.elf_dynamic.specs.Symbol.{symbols}
use Rattle.hash_check.specs.Export.{exports, is_exported}

not-true : (b : Bool) → not b ≡ true → b ≡ false
not-true true e = sym e
not-true false e = refl

pub exported_some : (file : List ℕ) (i : ℕ) → is_exported file i ≡ true → 1 ≤ i
unfolding is_exported
exported_some file i is =
    let other : i ≢ 0 = eqb-false i 0 (not-true (eqb i 0) (and_parts (not (eqb i 0)) (option_map_or exports (slice_get (symbols file) i) false) is).0) in
    omega arith

pub exported_within : (file : List ℕ) (i : ℕ) → is_exported file i ≡ true → i < length (symbols file)
unfolding is_exported
exported_within file i is = elim (cases_lt i (length (symbols file))) [
  | inl lt ↦ lt
  | inr past ↦
      let none : slice_get (symbols file) i ≡ None = slice_get_past (symbols file) i past in
      let is_there = (and_parts (not (eqb i 0)) (option_map_or exports (slice_get (symbols file) i) false) is).1 in
      let wrong : false ≡ true = ap (λ o. option_map_or exports o false) (sym none) ∙ is_there in
      absurd (cc)
]
