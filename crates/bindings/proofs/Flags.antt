-- The flags of symbols, after each of the relocations.
use Rattle.std.proofs.Common.{◌≡◌, ℕ, ◌<◌, ◌++◌, [], ◌∷◌, Bool, true, false, ◌||◌, List, length, get_or, refl, sym, ap, ◌∙◌}
use Rattle.std.specs.Prelude.{◌==◌, ◌&&◌, replicate, set}
use Rattle.std.specs.List.{list_any}
use Rattle.std.proofs.lemmas.Bool.{eqb-true, eqb-false}
use Rattle.std.proofs.lemmas.List.{length-set, length-replicate, get_or-replicate, get_or-set_same, get_or-set_other}
use Rattle.std.proofs.lemmas.List.Folds.{list_any-append}
use Rattle.elf_dynamic.specs.Relocation.{uses_symbol}
use Rattle.elf_dynamic.specs.declared.relocation.Relocation.{Relocation}
use Rattle.bindings.specs.Named.{names_symbol}
use Rattle.bindings.specs.inside.Flags.{AreFlags}

-- if there are no relocations, all flags are false
pub flags-none : (count : ℕ) → AreFlags count [] (replicate count false)
flags-none count = record {
  counted = length-replicate count false;
  are = λ i lt. get_or-replicate count i false false lt;
}

or-false : (b : Bool) → b ≡ (b || false)
or-false true = refl
or-false false = refl

or-true : (b : Bool) → true ≡ (b || true)
or-true true = refl
or-true false = refl

-- a relocation that names no symbol changes no flag
pub flags-kept : (count : ℕ) (rs : List Relocation) (r : Relocation) (flags : List Bool) → uses_symbol r.kind ≡ false
    → AreFlags count rs flags → AreFlags count (rs ++ r ∷ []) flags
flags-kept count rs r flags unused h = record {
  counted = h.counted;
  are = λ i lt.
      h.are i lt
      ∙ or-false (list_any (names_symbol i) rs)
      ∙ ap (λ b. list_any (names_symbol i) rs || ((b && r.symbol == i) || false)) (sym unused)
      ∙ sym (list_any-append (names_symbol i) rs (r ∷ []));
}

set-by : (flags : List Bool) (s i : ℕ) (b c : Bool) → s < length flags → get_or flags i false ≡ b → (s == i) ≡ c
    → get_or (set flags s true) i false ≡ (b || (c || false))
set-by flags s i b true lt was same =
    ap (λ k. get_or (set flags s true) k false) (sym (eqb-true s i same)) ∙ get_or-set_same flags s true false lt ∙ or-true b
set-by flags s i b false lt was differ = get_or-set_other flags s i true false (λ e. eqb-false s i differ (sym e)) ∙ was ∙ or-false b

-- if a relocation names a symbol, the flags stay right if this symbol's flag is set
pub flags-set : (count : ℕ) (rs : List Relocation) (r : Relocation) (flags : List Bool) → uses_symbol r.kind ≡ true → r.symbol < length flags
    → AreFlags count rs flags → AreFlags count (rs ++ r ∷ []) (set flags r.symbol true)
flags-set count rs r flags used within h = record {
  counted = length-set flags r.symbol true ∙ h.counted;
  are = λ i lt.
      set-by flags r.symbol i (list_any (names_symbol i) rs) (r.symbol == i) within (h.are i lt) refl
      ∙ ap (λ b. list_any (names_symbol i) rs || ((b && r.symbol == i) || false)) (sym used)
      ∙ sym (list_any-append (names_symbol i) rs (r ∷ []));
}
