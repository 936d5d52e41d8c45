-- All symbols of several objects, with numbers that distinguish their names (own).
use Rattle.std.specs.Prelude.{ℕ, List, [], ◌≡◌, ◌<◌, ◌≤◌, length, slice_index_or}
use Rattle.elf_dynamic.specs.Symbol.{symbols}
use Rattle.elf_dynamic.specs.Strings.{name_of}
use Rattle.hash_check.specs.declared.numbered.NumberedSymbol.{NumberedSymbol}

-- the file of object number `place`
abbrev pub nth_file : List (List ℕ) → ℕ → List ℕ
nth_file files place = slice_index_or files place []

-- symbol number `k` of the list
abbrev pub nth_symbol : List NumberedSymbol → ℕ → NumberedSymbol
nth_symbol all k = slice_index_or all k (record { object = 0; symbol = 0; number = 0 })

-- the name of a symbol of an object
abbrev pub name_in : List (List ℕ) → NumberedSymbol → List ℕ
name_in files s = name_of (nth_file files s.object) s.symbol

-- the symbol is in one of the first `n` objects, and its number isn't 0
pub record IsSymbolOf (files : List (List ℕ)) (n : ℕ) (s : NumberedSymbol) : Type 0 where
  pub there : s.object < n
  pub some : 1 ≤ s.symbol
  pub within : s.symbol < length (symbols (nth_file files s.object))

-- symbol number `i` of object number `place` is in the list
pub record HasSymbol (all : List NumberedSymbol) (place i : ℕ) : Type 0 where
  pub at : ℕ
  pub within : at < length all
  pub object : (nth_symbol all at).object ≡ place
  pub symbol : (nth_symbol all at).symbol ≡ i

-- the list has all symbols of the first `n` objects, except those with number 0, in the order of the
-- objects
pub record AreSymbols (files : List (List ℕ)) (n : ℕ) (all : List NumberedSymbol) : Type 0 where
  pub each : (k : ℕ) → k < length all → IsSymbolOf files n (nth_symbol all k)
  pub every : (place i : ℕ) → place < n → 1 ≤ i → i < length (symbols (nth_file files place)) → HasSymbol all place i
  pub rising : (j k : ℕ) → j ≤ k → k < length all → (nth_symbol all j).object ≤ (nth_symbol all k).object

-- the list has all symbols of the objects; two symbols have the same number if and only if they have the same name
pub record AreNumbered (files : List (List ℕ)) (all : List NumberedSymbol) : Type 0 where
  pub are : AreSymbols files (length files) all
  pub few : (k : ℕ) → k < length all → (nth_symbol all k).number ≤ length all
  pub same : (j k : ℕ) → j < length all → k < length all → (nth_symbol all j).number ≡ (nth_symbol all k).number → name_in files (nth_symbol all j) ≡ name_in files (nth_symbol all k)
  pub one : (j k : ℕ) → j < length all → k < length all → name_in files (nth_symbol all j) ≡ name_in files (nth_symbol all k) → (nth_symbol all j).number ≡ (nth_symbol all k).number
