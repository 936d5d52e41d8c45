-- Objects at their bases, each with the values of the symbols to which its relocations refer (own).
use Rattle.std.specs.Prelude.{ℕ, ◌≡◌, ◌<◌, List, length, get_or, slice_index, Option, Some, None, true}
use Rattle.std.specs.List.{All, filter_map}
use Rattle.elf_dynamic.specs.Refusal.{first_refusal}
use Rattle.elf_dynamic.specs.Relocation.{relocations, uses_symbol}
use Rattle.elf_dynamic.specs.declared.relocation.Relocation.{Relocation}
use Rattle.image.specs.Placement.{Placed, Stacked}
use Rattle.image.specs.Relocating.{Write, base_at, name_at, relocations_of, symbol_value, write_with}

-- the value of symbol number `symbol`, from a list of values in the order of the symbol numbers
abbrev pub value_in : List ℕ → ℕ → Option ℕ
value_in values symbol = Some (slice_index values symbol)

-- `values` has the value of symbol number `symbol` of object number `own`
abbrev pub IsKnown : List Placed → ℕ → List ℕ → ℕ → Type 0
IsKnown objects own values symbol = symbol_value objects own symbol ≡ value_in values symbol

-- if the type of relocation `r` of object number `own` uses a symbol, `values` has the value of this symbol
abbrev pub IsReady : List Placed → ℕ → List ℕ → Relocation → Type 0
IsReady objects own values r = uses_symbol r.kind ≡ true → IsKnown objects own values r.symbol

-- an object: its name, its base, and the values of its symbols, in the order of the symbol numbers
pub record Bound : Type 0 where
  pub name : List ℕ
  pub base : ℕ
  pub values : List ℕ

-- the object `bound` with its file's bytes, `file`
abbrev pub placed_as : Bound → List ℕ → Placed
placed_as bound file = record { name = bound.name; file = file; base = bound.base }

-- the writes of a file's relocations, with the base and the values of `bound`
abbrev pub bound_writes : Bound → List ℕ → List Write
bound_writes bound file = filter_map (write_with bound.base (value_in bound.values)) (relocations file)

-- `bound` is object number `own`, with the values of all symbols to which its relocations refer
pub record IsBound (objects : List Placed) (own : ℕ) (bound : Bound) : Type 0 where
  pub name : bound.name ≡ name_at objects own
  pub base : bound.base ≡ base_at objects own
  pub ready : All (IsReady objects own bound.values) (relocations_of objects own)

-- each element of `bound` is the object with the same number, with the values of its symbols
abbrev pub FirstBound : List Placed → List Bound → Type 0
FirstBound objects bound = (own : ℕ) (d : Bound) → own < length bound → IsBound objects own (get_or bound own d)

-- all tests accept the file of each object
abbrev pub AllAccepted : List Placed → Type 0
AllAccepted objects = All (λ p. first_refusal p.file ≡ None) objects

-- `bound` has all objects with the values of their symbols, and each object lies above the object
-- before it in memory
pub record AreBound (objects : List Placed) (bound : List Bound) : Type 0 where
  pub counted : length bound ≡ length objects
  pub each : FirstBound objects bound
  pub stacked : Stacked 0 objects
  pub accepted : AllAccepted objects
