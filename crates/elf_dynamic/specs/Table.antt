-- The tables whose addresses are in the dynamic section (gABI chapter 5).
use Rattle.std.specs.Prelude.{ℕ, List, Option, is_some, Bool, not, ◌||◌}
use Rattle.elf_file.specs.Constant.{DT_RELA, DT_RELASZ, DT_JMPREL, DT_PLTRELSZ}
use Rattle.elf_dynamic.specs.HashTable.{hash_head_bytes, hash_bytes}
use Rattle.elf_dynamic.specs.Strings.{string_bytes}
use Rattle.elf_dynamic.specs.Symbol.{symbol_bytes}
use Rattle.elf_dynamic.specs.Relocation.{table_bytes}

-- `bytes` is none: the bytes can't be read
abbrev pub is_unreadable : Option (List ℕ) → Bool
is_unreadable bytes = not (is_some bytes)

-- the hash table can't be read: its first two words can't, or the whole table can't, whose size
-- these two words determine
abbrev pub has_bad_hash : List ℕ → Bool
has_bad_hash file = is_unreadable (hash_head_bytes file) || is_unreadable (hash_bytes file)

-- E22: the string table, the hash table, the symbol table or a table of relocations can't be read
abbrev pub has_bad_range : List ℕ → Bool
has_bad_range file =
    is_unreadable (string_bytes file)
    || has_bad_hash file
    || is_unreadable (symbol_bytes file)
    || is_unreadable (table_bytes file DT_RELA DT_RELASZ)
    || is_unreadable (table_bytes file DT_JMPREL DT_PLTRELSZ)
