-- Definitions of names that are identified by numbers, and the definitions that were found for the
-- symbols of an order. To understand the contracts of public calls, you don't need these
-- definitions.
use Rattle.std.specs.Prelude.{ℕ, List, [], Option, Some, None, ◌≡◌, ◌<◌, ◌≤◌, ◌+◌, ◌==◌, ◌⊎◌, true, length, map, slice_index_or, if◌then◌else◌}
use Rattle.elf_file.specs.Dynamic.{is_symbolic}
use Rattle.elf_dynamic.specs.Symbol.{symbols}
use Rattle.elf_dynamic.specs.Strings.{name_of}
use Rattle.hash_check.specs.Export.{is_exported}
use Rattle.hash_check.specs.Numbered.{nth_symbol, name_in}
use Rattle.hash_check.specs.declared.numbered.NumberedSymbol.{NumberedSymbol}
use Rattle.scope.specs.Objects.{Named, file_at}
use Rattle.scope.specs.Lookup.{definition_at, lookup}
use Rattle.scope.specs.declared.target.Target.{Target}
use Rattle.scope.specs.declared.target.Target.TheVariants.{Zero, At}

abbrev pub files_of : List Named → List (List ℕ)
files_of objects = map (λ o. o.file) objects

abbrev pub IsExported : List Named → NumberedSymbol → Type 0
IsExported objects s = is_exported (file_at objects s.object) s.symbol ≡ true

-- the target of a stored definition: symbol number `symbol` of `object`, or none if `symbol` is 0
unfoldable pub kept_target : ℕ → ℕ → Option Target
kept_target object symbol = if symbol == 0 then None else Some (At object symbol)

abbrev pub nth_target : List (Option Target) → ℕ → Option Target
nth_target kept n = slice_index_or kept n None

-- the definition that is stored for number `n` is exported symbol number `at` of the list, whose
-- name has the number `n`
pub record IsKept (objects : List Named) (all : List NumberedSymbol) (kept : List (Option Target)) (n at : ℕ) : Type 0 where
  pub within : at < length all
  pub exported : IsExported objects (nth_symbol all at)
  pub told : (nth_symbol all at).number ≡ n
  pub is : nth_target kept n ≡ Some (At (nth_symbol all at).object (nth_symbol all at).symbol)

-- no definition is stored for number `n`, or the stored one is among the first `count` symbols of
-- the list
abbrev pub IsOneOf : List Named → List NumberedSymbol → ℕ → List (Option Target) → ℕ → Type 0
IsOneOf objects all count kept n = (nth_target kept n ≡ None) ⊎ ((at : ℕ) × (at < count) × IsKept objects all kept n at)

-- for each number, the stored definition is the first definition among the first `count` symbols of
-- the list
pub record AreFirst (objects : List Named) (all : List NumberedSymbol) (count : ℕ) (kept : List (Option Target)) : Type 0 where
  pub size : length kept ≡ length all + 1
  pub each : (n : ℕ) → IsOneOf objects all count kept n
  pub known : (k : ℕ) → k < count → IsExported objects (nth_symbol all k) → (at : ℕ) × (at ≤ k) × IsKept objects all kept (nth_symbol all k).number at

-- for each number, the stored definition is the last definition among the first `count` symbols of
-- the list
pub record AreLast (objects : List Named) (all : List NumberedSymbol) (count : ℕ) (kept : List (Option Target)) : Type 0 where
  pub size : length kept ≡ length all + 1
  pub each : (n : ℕ) → IsOneOf objects all count kept n
  pub known : (k : ℕ) → k < count → IsExported objects (nth_symbol all k) → (at : ℕ) × (k ≤ at) × IsKept objects all kept (nth_symbol all k).number at

-- the first `count` symbols of the list are exactly the symbols of the objects up to the object at
-- `place`
pub record AreUpTo (all : List NumberedSymbol) (count place : ℕ) : Type 0 where
  pub within : count ≤ length all
  pub low : (k : ℕ) → k < count → (nth_symbol all k).object ≤ place
  pub high : (k : ℕ) → count ≤ k → k < length all → place < (nth_symbol all k).object

-- the definition, if it is one by the object at `place`, and otherwise none
unfoldable pub own_of : ℕ → Option Target → Option Target
own_of place None = None
own_of place (Some Zero) = None
own_of place (Some (At object symbol)) = if object == place then Some (At object symbol) else None

-- the symbol that a symbol's own object exports under the symbol's name
abbrev pub own_definition : List Named → NumberedSymbol → Option Target
own_definition objects s = definition_at objects (name_in (files_of objects) s) s.object

-- for each symbol of a symbolic object, `own` has the symbol that this object exports under its name
abbrev pub AreOwn : List Named → List NumberedSymbol → List (Option Target) → Type 0
AreOwn objects all own =
    (k : ℕ) → k < length all → is_symbolic (file_at objects (nth_symbol all k).object) ≡ true → nth_target own k ≡ own_definition objects (nth_symbol all k)

-- the definition in `rows` for symbol number `i` of the object at `place`
abbrev pub nth_found : List (List (Option Target)) → ℕ → ℕ → Option Target
nth_found rows place i = slice_index_or (slice_index_or rows place []) i None

-- there is a row for each object, with an element for each of the object's symbols
pub record HaveRoom (objects : List Named) (rows : List (List (Option Target))) : Type 0 where
  pub size : length rows ≡ length objects
  pub sizes : (p : ℕ) → p < length objects → length (slice_index_or rows p []) ≡ length (symbols (file_at objects p))

-- the rows have the definitions that lookup finds for the first `count` symbols
pub record AreFound (objects : List Named) (all : List NumberedSymbol) (count : ℕ) (rows : List (List (Option Target))) : Type 0 where
  pub room : HaveRoom objects rows
  pub known : (k : ℕ) → k < count → nth_found rows (nth_symbol all k).object (nth_symbol all k).symbol ≡ lookup objects (nth_symbol all k).object (name_in (files_of objects) (nth_symbol all k))

-- the rows have the definitions that lookup finds for all symbols of all objects, except those with number 0
pub record IsFound (objects : List Named) (rows : List (List (Option Target))) : Type 0 where
  pub room : HaveRoom objects rows
  pub found : (p i : ℕ) → p < length objects → 1 ≤ i → i < length (symbols (file_at objects p)) → nth_found rows p i ≡ lookup objects p (name_of (file_at objects p) i)

-- in the new rows, the definition for symbol number `symbol` of the object at `place` is `found`;
-- nothing else has changed
pub record IsPutAt (old new : List (List (Option Target))) (place symbol : ℕ) (found : Option Target) : Type 0 where
  pub size : length new ≡ length old
  pub sizes : (p : ℕ) → length (slice_index_or new p []) ≡ length (slice_index_or old p [])
  pub here : nth_found new place symbol ≡ found
  pub others : (p i : ℕ) → ((p ≡ place) × (i ≡ symbol) → ⊥) → nth_found new p i ≡ nth_found old p i
