-- The string table, and the names in it (gABI chapter 4, string table; chapter 5, DT_NEEDED and
-- DT_SONAME).
use Rattle.std.specs.Prelude.{ℕ, ◌-◌, List, [], map, take_while, drop, slice_get, slice_index, Option, Some, None}
use Rattle.std.specs.Prelude.{unwrap_or, Bool, not, ◌==◌, ◌||◌, ◌&&◌, nat_le, if◌then◌else◌}
use Rattle.std.specs.Option.{option_map_or}
use Rattle.std.specs.List.{list_any}
use Rattle.elf_file.specs.Constant.{DT_SONAME, DT_STRTAB, DT_STRSZ}
use Rattle.elf_file.specs.Dynamic.{is_present, tag_value, needed_offsets}
use Rattle.elf_file.specs.Address.{bytes_at}
use Rattle.elf_dynamic.specs.Symbol.{symbols, tested_symbols}

-- the bytes of the string table, if they can be read
unfoldable pub string_bytes : List ℕ → Option (List ℕ)
string_bytes file = bytes_at file (tag_value file DT_STRTAB) (tag_value file DT_STRSZ)

-- the string table; no bytes if the table can't be read (then the file is refused with BadRange)
unfoldable pub string_table : List ℕ → List ℕ
string_table file = unwrap_or (string_bytes file) []

-- the string at offset `offset` of a table: the bytes up to the next zero byte
unfoldable pub string_at : List ℕ → ℕ → List ℕ
string_at table offset = take_while (λ b. not (b == 0)) (drop offset table)

-- the names of the needed libraries, in the order of the DT_NEEDED entries
unfoldable pub needed : List ℕ → List (List ℕ)
needed file = map (string_at (string_table file)) (needed_offsets file)

-- the object's own name, if it has one
unfoldable pub soname : List ℕ → Option (List ℕ)
soname file = if is_present file DT_SONAME then Some (string_at (string_table file) (tag_value file DT_SONAME)) else None

-- the name of the symbol with index `i`; the name of symbol 0 is empty
unfoldable pub name_of : List ℕ → ℕ → List ℕ
name_of file i = if i == 0 then [] else option_map_or (λ s. string_at (string_table file) s.name) (slice_get (symbols file) i) []

-- the offset isn't below the size of the string table
abbrev pub is_outside : List ℕ → ℕ → Bool
is_outside file offset = nat_le (tag_value file DT_STRSZ) offset

-- the string table is empty, or its last byte isn't zero
abbrev pub is_unended : List ℕ → Bool
is_unended file = (tag_value file DT_STRSZ == 0) || not (slice_index (string_table file) (tag_value file DT_STRSZ - 1) == 0)

-- the name of a needed library isn't in the string table
unfoldable pub has_bad_needed : List ℕ → Bool
has_bad_needed file = list_any (is_outside file) (needed_offsets file)

-- the object's own name isn't in the string table
abbrev pub has_bad_soname_offset : List ℕ → Bool
has_bad_soname_offset file = is_present file DT_SONAME && is_outside file (tag_value file DT_SONAME)

-- a symbol's name isn't in the string table
unfoldable pub has_bad_symbol_name : List ℕ → Bool
has_bad_symbol_name file = list_any (λ s. is_outside file s.name) (tested_symbols file)

-- E23: the string table is empty or doesn't end with a zero byte, or a name isn't in it
abbrev pub has_bad_string : List ℕ → Bool
has_bad_string file = is_unended file || has_bad_needed file || has_bad_soname_offset file || has_bad_symbol_name file
