-- The name of a library (gABI chapter 5, DT_SONAME; own: which names are accepted).
use Rattle.std.specs.Prelude.{ℕ, List, Bool, false, ◌==◌, ◌&&◌, not, nat_le, length}
use Rattle.std.specs.List.{list_all}
use Rattle.std.specs.Option.{option_map_or}
use Rattle.elf_dynamic.specs.Strings.{soname}

-- the maximum length of a library's name, in bytes
abbrev pub NAME_LIMIT : ℕ
NAME_LIMIT = 240

-- a library's name may contain the byte: a printable ASCII character, but no blank and no slash
abbrev pub is_name_byte : ℕ → Bool
is_name_byte b = nat_le 0x21 b && (nat_le b 0x7e && not (b == 0x2f))

-- the name has 1 to 240 bytes, and a library's name may contain each of these bytes
unfoldable pub is_library_name : List ℕ → Bool
is_library_name name = nat_le 1 (length name) && nat_le (length name) NAME_LIMIT && list_all is_name_byte name

-- E33: there is no SONAME, or it can't be a library's name
unfoldable pub has_bad_soname : List ℕ → Bool
has_bad_soname file = not (option_map_or is_library_name (soname file) false)
