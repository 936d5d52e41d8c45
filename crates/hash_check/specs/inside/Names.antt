-- The names of symbols, and the strings of the string table whose tails they are.
use Rattle.std.specs.Prelude.{ℕ, List, true, map, ◌≡◌, ◌≢◌, ◌<◌, ◌≤◌, ◌+◌, ◌-◌, length, take, drop, reverse, slice_index, slice_get}
use Rattle.std.specs.List.{All, range_with_len}
use Rattle.std.specs.Option.{option_map_or}
use Rattle.elf_dynamic.specs.Symbol.{symbols}
use Rattle.elf_dynamic.specs.Strings.{name_of}
use Rattle.elf_dynamic.specs.Strings.{string_table, string_at}
use Rattle.hash_check.specs.Export.{is_exported}
use Rattle.hash_check.specs.declared.strings.Stretch.{Stretch}

-- there is a symbol with number `i`, and `i` isn't 0
pub record IsSymbol (file : List ℕ) (i : ℕ) : Type 0 where
  pub some : 1 ≤ i
  pub within : i < length (symbols file)

-- the numbers of all symbols except 0
unfoldable pub all_symbols : List ℕ → List ℕ
all_symbols file = range_with_len 1 (length (symbols file) - 1)

-- the offset of the name of symbol number `i` in the string table, or 0 if there is no such symbol
abbrev pub offset_of : List ℕ → ℕ → ℕ
offset_of file i = option_map_or (λ s. s.name) (slice_get (symbols file) i) 0

-- stretch `s` is a string of the string table: its length is the length of the string at its offset
abbrev pub IsStretch : List ℕ → Stretch → Type 0
IsStretch file s = length (string_at (string_table file) s.from) ≡ s.length

-- the bytes of a stretch
unfoldable pub stretch_bytes : List ℕ → Stretch → List ℕ
stretch_bytes file s = take s.length (drop s.from (string_table file))

-- the bytes of a stretch, the last byte first
unfoldable pub stretch_back : List ℕ → Stretch → List ℕ
stretch_back file s = reverse (stretch_bytes file s)

-- the name of symbol number `i` begins in stretch `s`
abbrev pub BeginsIn : List ℕ → ℕ → Stretch → Type 0
BeginsIn file i s = (s.from ≤ offset_of file i) × (offset_of file i ≤ s.from + s.length)

-- `n` is the length of the name of symbol number `i`
abbrev pub IsLengthOf : List ℕ → ℕ → ℕ → Type 0
IsLengthOf file i n = n ≡ length (name_of file i)

-- no two of the symbols have the same name
pub record AllDiffer (file numbers : List ℕ) : Type 0 where
  pub differ : (i j : ℕ) → i < j → j < length numbers → name_of file (slice_index numbers i) ≢ name_of file (slice_index numbers j)

-- the symbols are exported, and `names` has their names, in the same order
pub record AreExports (file symbols : List ℕ) (names : List (List ℕ)) : Type 0 where
  pub exported : All (λ i. is_exported file i ≡ true) symbols
  pub named : names ≡ map (name_of file) symbols

-- the list has every exported symbol
pub record IsWhole (file symbols : List ℕ) : Type 0 where
  pub stands : (i : ℕ) → is_exported file i ≡ true → (k : ℕ) × (k < length symbols) × (slice_index symbols k ≡ i)
