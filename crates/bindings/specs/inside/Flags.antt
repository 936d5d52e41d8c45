-- Flags for the symbols to which relocations refer. To understand the contracts of public calls,
-- you don't need these definitions.
use Rattle.std.specs.Prelude.{ℕ, ◌≡◌, ◌<◌, List, [], length, get_or, Bool, false}
use Rattle.std.specs.List.{list_any}
use Rattle.elf_dynamic.specs.Relocation.{relocations}
use Rattle.elf_dynamic.specs.Symbol.{symbols}
use Rattle.elf_dynamic.specs.declared.relocation.Relocation.{Relocation}
use Rattle.image.specs.Placement.{Placed}
use Rattle.image.specs.Relocating.{file_at}
use Rattle.bindings.specs.Named.{names_symbol}

-- there are `count` flags, and the flag of a symbol is true if and only if one of the relocations
-- refers to the symbol
pub record AreFlags (count : ℕ) (rs : List Relocation) (flags : List Bool) : Type 0 where
  pub counted : length flags ≡ count
  pub are : (i : ℕ) → i < count → get_or flags i false ≡ list_any (names_symbol i) rs

-- the flags are right for all symbols and all relocations of a file
abbrev pub FileFlags : List ℕ → List Bool → Type 0
FileFlags file flags = AreFlags (length (symbols file)) (relocations file) flags

-- there are flags for each object, and they are right for its file
pub record AllFlags (objects : List Placed) (flags : List (List Bool)) : Type 0 where
  pub counted : length flags ≡ length objects
  pub each : (own : ℕ) → own < length objects → FileFlags (file_at objects own) (get_or flags own [])
