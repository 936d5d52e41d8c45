-- The refusal of a file is that of the first test that applies. Each test is stated for the whole
-- file.
use Rattle.std.specs.Prelude.{ℕ, List, [], ◌∷◌, ◌++◌, Option}
use Rattle.std.specs.Option.{option_map}
use Rattle.elf_file.specs.FirstOf.{◌when◌, first_of}
use Rattle.elf_file.specs.Refusal.{header_tests, segment_tests, tag_tests}
use Rattle.elf_file.specs.declared.refusal.ObjectRefusal.{ObjectRefusal}
use Rattle.elf_file.specs.declared.refusal.ObjectRefusal.TheVariants.{BadRange, BadString, CommonSymbol, TlsSymbol, IfuncSymbol, BadBinding}
use Rattle.elf_file.specs.declared.refusal.ObjectRefusal.TheVariants.{RelocationType, RelocationSymbol, RelocationPlace}
use Rattle.elf_dynamic.specs.Table.{has_bad_range}
use Rattle.elf_dynamic.specs.Strings.{has_bad_string}
use Rattle.elf_dynamic.specs.Symbol.{has_common_symbol, has_tls_symbol, has_ifunc_symbol, has_bad_binding}
use Rattle.elf_dynamic.specs.Relocation.{first_unsupported_type, has_bad_relocation_symbol, has_bad_place}

-- the tests of the tables and the strings, in the order in which they are made: E22 and E23
abbrev pub table_tests : List ℕ → List (Option ObjectRefusal)
table_tests file = (BadRange when has_bad_range file) ∷ (BadString when has_bad_string file) ∷ []

-- the first of E22 and E23 that applies, or none
unfoldable pub table_refusal : List ℕ → Option ObjectRefusal
table_refusal file = first_of (table_tests file)

-- the tests of the symbols, in the order in which they are made: E24 to E27
abbrev pub symbol_tests : List ℕ → List (Option ObjectRefusal)
symbol_tests file =
    (CommonSymbol when has_common_symbol file)
    ∷ (TlsSymbol when has_tls_symbol file)
    ∷ (IfuncSymbol when has_ifunc_symbol file)
    ∷ (BadBinding when has_bad_binding file)
    ∷ []

-- the first of E24 to E27 that applies, or none
unfoldable pub symbol_refusal : List ℕ → Option ObjectRefusal
symbol_refusal file = first_of (symbol_tests file)

-- the tests of the relocations, in the order in which they are made: E30 to E32
abbrev pub relocation_tests : List ℕ → List (Option ObjectRefusal)
relocation_tests file =
    option_map RelocationType (first_unsupported_type file)
    ∷ (RelocationSymbol when has_bad_relocation_symbol file)
    ∷ (RelocationPlace when has_bad_place file)
    ∷ []

-- the first of E30 to E32 that applies, or none
unfoldable pub relocation_refusal : List ℕ → Option ObjectRefusal
relocation_refusal file = first_of (relocation_tests file)

-- the tests of a file, in the order in which they are made: E1 to E27, then E30 to E32
abbrev pub object_tests : List ℕ → List (Option ObjectRefusal)
object_tests file =
    header_tests file ++ segment_tests file ++ tag_tests file ++ table_tests file ++ symbol_tests file ++ relocation_tests file

-- the refusal of a file, or none if the file is accepted
unfoldable pub first_refusal : List ℕ → Option ObjectRefusal
first_refusal file = first_of (object_tests file)
