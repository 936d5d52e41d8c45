-- The symbols that an object exports (gABI chapter 4, symbol table).
use Rattle.std.specs.Prelude.{ℕ, List, Bool, false, ◌-◌, ◌==◌, ◌&&◌, ◌||◌, not, length, slice_get}
use Rattle.std.specs.List.{filter, range_with_len}
use Rattle.std.specs.Option.{option_map_or}
use Rattle.elf_dynamic.specs.Symbol.{symbols, is_global, is_weak, is_defined, is_function_or_object, is_visible}
use Rattle.elf_dynamic.specs.declared.symbol.Symbol.{Symbol}

-- a symbol with the fields `s` is exported, if its number isn't 0
unfoldable pub exports : Symbol → Bool
exports s = (is_global s || is_weak s) && (is_defined s && (is_function_or_object s && is_visible s))

-- symbol number `i` is exported
unfoldable pub is_exported : List ℕ → ℕ → Bool
is_exported file i = not (i == 0) && option_map_or exports (slice_get (symbols file) i) false

-- the numbers of the exported symbols
unfoldable pub exported_symbols : List ℕ → List ℕ
exported_symbols file = filter (is_exported file) (range_with_len 1 (length (symbols file) - 1))
