-- Symbols that none of the four tests refuses.
use Rattle.std.proofs.Common.{◌≡◌, ℕ, Bool, true, false, List, ◌∷◌, [], None, drop, refl, ◌∙◌, sym, ap, get_or}
use Rattle.std.specs.Prelude.{◌||◌}
use Rattle.std.specs.List.{list_any}
use Rattle.std.proofs.lemmas.List.Folds.{Any-from_list_any, list_any_at}
use Rattle.elf_file.specs.FirstOf.{◌when◌, first_of}
use Rattle.elf_file.specs.declared.refusal.ObjectRefusal.TheVariants.{CommonSymbol, TlsSymbol, IfuncSymbol, BadBinding}
use Rattle.elf_dynamic.specs.Refusal.{symbol_refusal}
use Rattle.elf_dynamic.specs.Symbol.{symbols, symbols_in, symbol_table, tested_symbols, is_common, is_tls, is_ifunc, is_badly_bound}
use Rattle.elf_dynamic.specs.Symbol.{has_common_symbol, has_tls_symbol, has_ifunc_symbol, has_bad_binding}
use Rattle.elf_dynamic.specs.inside.Symbols.{is_refused}
use Rattle.elf_dynamic.specs.declared.symbol.Symbol.{Symbol}

-- if each symbol that passes `p` also passes `q`, and no symbol passes `q`, no symbol passes `p`
fewer : (p q : Symbol → Bool) (xs : List Symbol) → ((s : Symbol) → p s ≡ true → q s ≡ true) → list_any q xs ≡ false → list_any p xs ≡ false
fewer p q xs more none = elim (list_any p xs) as (λ b. list_any p xs ≡ b → b ≡ false) [
  | true ↦ λ e.
      let a = Any-from_list_any p xs e in
      let found : list_any q xs ≡ true = list_any_at q xs a.0 a.1 a.2 (more (get_or xs a.0 a.1) (ap p a.3 ∙ a.4)) in
      let wrong : true ≡ false = sym found ∙ none in absurd (cc)
  | false ↦ λ e. refl
] refl

first-is : (a b : Bool) → a ≡ true → (a || b) ≡ true
first-is true b e = refl
first-is false b e = absurd (cc)

second-is : (a b : Bool) → b ≡ true → (a || b) ≡ true
second-is true b e = refl
second-is false b e = e

no-first : (a b c d : Bool) → a ≡ false → b ≡ false → c ≡ false → d ≡ false
    → first_of ((CommonSymbol when a) ∷ (TlsSymbol when b) ∷ (IfuncSymbol when c) ∷ (BadBinding when d) ∷ []) ≡ None
no-first true b c d p q r s = absurd (cc)
no-first false true c d p q r s = absurd (cc)
no-first false false true d p q r s = absurd (cc)
no-first false false false true p q r s = absurd (cc)
no-first false false false false p q r s = refl

-- if the joint test refuses no symbol, none of the four tests applies
pub none_refused : (file table : List ℕ) → table ≡ symbol_table file → list_any is_refused (drop 1 (symbols_in table)) ≡ false → symbol_refusal file ≡ None
unfolding symbol_refusal has_common_symbol has_tls_symbol has_ifunc_symbol has_bad_binding symbols is_refused
none_refused file table is none =
    let all : list_any is_refused (tested_symbols file) ≡ false = ap (λ t. list_any is_refused (drop 1 (symbols_in t))) (sym is) ∙ none in
    let part : (p : Symbol → Bool) → ((s : Symbol) → p s ≡ true → is_refused s ≡ true) → list_any p (tested_symbols file) ≡ false =
    λ p more. fewer p is_refused (tested_symbols file) more all in
    no-first (has_common_symbol file) (has_tls_symbol file) (has_ifunc_symbol file) (has_bad_binding file)
    (part is_common (λ s e. first-is (is_common s) (is_tls s || (is_ifunc s || is_badly_bound s)) e))
    (part is_tls (λ s e. second-is (is_common s) (is_tls s || (is_ifunc s || is_badly_bound s)) (first-is (is_tls s) (is_ifunc s || is_badly_bound s) e)))
    (part is_ifunc (λ s e. second-is (is_common s) (is_tls s || (is_ifunc s || is_badly_bound s)) (second-is (is_tls s) (is_ifunc s || is_badly_bound s) (first-is (is_ifunc s) (is_badly_bound s) e))))
    (part is_badly_bound (λ s e. second-is (is_common s) (is_tls s || (is_ifunc s || is_badly_bound s))
    (second-is (is_tls s) (is_ifunc s || is_badly_bound s) (second-is (is_ifunc s) (is_badly_bound s) e))))
