-- The symbol table and the tests of its symbols (gABI chapter 4, symbol table).
use Rattle.std.specs.Prelude.{ℕ, ◌+◌, ◌*◌, ◌/◌, ◌%◌, List, [], map, drop, length, slice_index}
use Rattle.std.specs.Prelude.{Option, unwrap_or, Bool, not, ◌==◌, ◌||◌, ◌&&◌}
use Rattle.std.specs.List.{list_any, range_with_len}
use Rattle.elf_file.specs.Number.{number_at}
use Rattle.elf_file.specs.Constant.{DT_SYMTAB, SYMBOL_SIZE}
use Rattle.elf_file.specs.Dynamic.{tag_value}
use Rattle.elf_file.specs.Address.{bytes_at}
use Rattle.elf_dynamic.specs.Constant.{STB_LOCAL, STB_GLOBAL, STB_WEAK, STT_NOTYPE, STT_OBJECT, STT_FUNC, STT_COMMON, STT_TLS, STT_GNU_IFUNC}
use Rattle.elf_dynamic.specs.Constant.{STV_DEFAULT, STV_INTERNAL, STV_HIDDEN, STV_PROTECTED, SHN_UNDEF, SHN_ABS, SHN_COMMON}
use Rattle.elf_dynamic.specs.HashTable.{chain_count}
use Rattle.elf_dynamic.specs.declared.symbol.Symbol.{Symbol}

-- the symbol at offset `at` of a table
abbrev pub symbol_at : List ℕ → ℕ → Symbol
symbol_at table at =
    record {
      name = number_at 4 table at;
      info = slice_index table (at + 4);
      other = slice_index table (at + 5);
      section = number_at 2 table (at + 6);
      value = number_at 8 table (at + 8);
      size = number_at 8 table (at + 16);
    }

-- symbol number `i` of a table
unfoldable pub nth_symbol : List ℕ → ℕ → Symbol
nth_symbol table i = symbol_at table (SYMBOL_SIZE * i)

-- the symbols of a table
unfoldable pub symbols_in : List ℕ → List Symbol
symbols_in table = map (nth_symbol table) (range_with_len 0 (length table / SYMBOL_SIZE))

-- the bytes of the symbol table, if they can be read; there are as many symbols as chain words in
-- the hash table
unfoldable pub symbol_bytes : List ℕ → Option (List ℕ)
symbol_bytes file = bytes_at file (tag_value file DT_SYMTAB) (SYMBOL_SIZE * chain_count file)

-- the symbol table; no bytes if the table can't be read (then the file is refused with BadRange)
unfoldable pub symbol_table : List ℕ → List ℕ
symbol_table file = unwrap_or (symbol_bytes file) []

-- all symbols, including the one with index 0
unfoldable pub symbols : List ℕ → List Symbol
symbols file = symbols_in (symbol_table file)

-- the symbols that are tested: all except the one with index 0
abbrev pub tested_symbols : List ℕ → List Symbol
tested_symbols file = drop 1 (symbols file)

-- the binding: the high four bits of st_info
abbrev pub binding_of : Symbol → ℕ
binding_of s = s.info / 16

-- the type: the low four bits of st_info
abbrev pub type_of : Symbol → ℕ
type_of s = s.info % 16

-- the visibility: the low two bits of st_other
abbrev pub visibility_of : Symbol → ℕ
visibility_of s = s.other % 4

-- the symbol belongs only to its object
abbrev pub is_local : Symbol → Bool
is_local s = binding_of s == STB_LOCAL

-- the symbol is shared by all objects
abbrev pub is_global : Symbol → Bool
is_global s = binding_of s == STB_GLOBAL

-- the symbol is shared by all objects, and its value is 0 if no definition is found
abbrev pub is_weak : Symbol → Bool
is_weak s = binding_of s == STB_WEAK

-- the symbol is defined in its object
abbrev pub is_defined : Symbol → Bool
is_defined s = not (s.section == SHN_UNDEF)

-- the symbol's value is absolute: no base is added to it
abbrev pub is_absolute : Symbol → Bool
is_absolute s = s.section == SHN_ABS

-- the symbol is a function or an object, or has no type
abbrev pub is_function_or_object : Symbol → Bool
is_function_or_object s = (type_of s == STT_NOTYPE) || (type_of s == STT_OBJECT) || (type_of s == STT_FUNC)

-- other objects can see the symbol and replace it
abbrev pub has_default_visibility : Symbol → Bool
has_default_visibility s = visibility_of s == STV_DEFAULT

-- other objects can see the symbol
abbrev pub is_visible : Symbol → Bool
is_visible s = has_default_visibility s || (visibility_of s == STV_PROTECTED)

-- the symbol is hidden from other objects
abbrev pub is_hidden : Symbol → Bool
is_hidden s = (visibility_of s == STV_HIDDEN) || (visibility_of s == STV_INTERNAL)

-- the symbol has the section or the type of a common symbol
abbrev pub is_common : Symbol → Bool
is_common s = (s.section == SHN_COMMON) || (type_of s == STT_COMMON)

-- E24: a common symbol is present
unfoldable pub has_common_symbol : List ℕ → Bool
has_common_symbol file = list_any is_common (tested_symbols file)

-- the symbol's type is that of thread-local data
abbrev pub is_tls : Symbol → Bool
is_tls s = type_of s == STT_TLS

-- E25: a thread-local symbol is present
unfoldable pub has_tls_symbol : List ℕ → Bool
has_tls_symbol file = list_any is_tls (tested_symbols file)

-- the symbol's type is that of an indirect function
abbrev pub is_ifunc : Symbol → Bool
is_ifunc s = type_of s == STT_GNU_IFUNC

-- E26: an indirect function is present
unfoldable pub has_ifunc_symbol : List ℕ → Bool
has_ifunc_symbol file = list_any is_ifunc (tested_symbols file)

-- the symbol's binding is neither LOCAL, GLOBAL nor WEAK
abbrev pub is_badly_bound : Symbol → Bool
is_badly_bound s = not (is_local s) && not (is_global s) && not (is_weak s)

-- E27: a symbol has a binding that is neither LOCAL, GLOBAL nor WEAK
unfoldable pub has_bad_binding : List ℕ → Bool
has_bad_binding file = list_any is_badly_bound (tested_symbols file)
