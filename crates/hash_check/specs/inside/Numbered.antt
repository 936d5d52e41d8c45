-- Symbols and their names, while the code collects them. To understand the contracts of public
-- calls, you don't need these definitions.
use Rattle.std.specs.Prelude.{ℕ, List, ◌≡◌, ◌+◌, map}
use Rattle.hash_check.specs.Numbered.{name_in, AreSymbols}
use Rattle.hash_check.specs.declared.numbered.NumberedSymbol.{NumberedSymbol}
use Rattle.hash_check.specs.declared.endings.Ending.{Ending}

-- symbol number `i` of object number `place`, without a number for its name
abbrev pub unnumbered : ℕ → ℕ → NumberedSymbol
unnumbered place i = record { object = place; symbol = i; number = 0 }

abbrev pub with_number : NumberedSymbol → ℕ → NumberedSymbol
with_number s n = record { object = s.object; symbol = s.symbol; number = n }

-- the ending `e` after `before` other names were inserted at the front of the list of all names
unfoldable pub behind : ℕ → Ending → Ending
behind before e = record { string = e.string; first = before + e.first; past = before + e.past }

-- `all` has the symbols of the first `n` objects, except those with number 0, and `names` has their
-- names, in the same order
pub record AreGathered (files : List (List ℕ)) (n : ℕ) (all : List NumberedSymbol) (names : List (List ℕ)) : Type 0 where
  pub are : AreSymbols files n all
  pub names_are : names ≡ map (name_in files) all
