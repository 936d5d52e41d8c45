-- The symbols to which relocations refer (gABI chapter 4, relocation; psABI, relocation types).
use Rattle.std.specs.Prelude.{ℕ, ◌-◌, ◌==◌, List, length, Bool, ◌&&◌, filter}
use Rattle.std.specs.List.{list_any, range_with_len}
use Rattle.elf_dynamic.specs.Relocation.{relocations, uses_symbol}
use Rattle.elf_dynamic.specs.Symbol.{symbols}
use Rattle.elf_dynamic.specs.declared.relocation.Relocation.{Relocation}

-- the relocation uses the value of symbol number `i`
abbrev pub names_symbol : ℕ → Relocation → Bool
names_symbol i r = uses_symbol r.kind && r.symbol == i

-- some relocation of a file uses the value of symbol number `i`
abbrev pub is_named : List ℕ → ℕ → Bool
is_named file i = list_any (names_symbol i) (relocations file)

-- the numbers of the symbols to which relocations of a file refer, each only once, in ascending
-- order, except number 0
unfoldable pub named_symbols : List ℕ → List ℕ
named_symbols file = filter (is_named file) (range_with_len 1 (length (symbols file) - 1))
