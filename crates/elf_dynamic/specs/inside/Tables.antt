-- The tables of a file, as the code stores them.
use Rattle.std.specs.Prelude.{ℕ, ◌+◌, ◌*◌, ◌≡◌, List, length}
use Rattle.std.specs.Prelude.{Option, Some, None, if◌then◌else◌}
use Rattle.elf_file.specs.Constant.{DT_SONAME, DT_STRSZ, SYMBOL_SIZE}
use Rattle.elf_file.specs.Dynamic.{is_present, is_symbolic, needed_offsets, tag_value}
use Rattle.elf_dynamic.specs.Constant.{WORD_SIZE}
use Rattle.elf_dynamic.specs.HashTable.{bucket_count, chain_count, hash_table}
use Rattle.elf_dynamic.specs.Strings.{string_table}
use Rattle.elf_dynamic.specs.Symbol.{symbol_table}
use Rattle.elf_dynamic.specs.Relocation.{rela_table, jmprel_table}
use Rattle.elf_dynamic.specs.declared.hash_table.HashTable.{HashTable}
use Rattle.elf_dynamic.specs.declared.parts.Parts.{Parts}

-- `table` is the hash table of the file
pub record IsHashTable (file : List ℕ) (table : HashTable) : Type 0 where
  pub bytes : table.bytes.now ≡ hash_table file
  pub size : length table.bytes.now ≡ WORD_SIZE * (2 + (bucket_count file + chain_count file))
  pub buckets : table.bucket_count ≡ bucket_count file
  pub chains : table.chain_count ≡ chain_count file

-- the offset of the object's own name in the string table, if it has a name
abbrev pub soname_offset : List ℕ → Option ℕ
soname_offset file = if is_present file DT_SONAME then Some (tag_value file DT_SONAME) else None

-- `parts` has the tables of the file, the number of needed libraries, the offset of the object's own name, and whether
-- the object is symbolic
pub record HasParts (file : List ℕ) (parts : Parts) : Type 0 where
  pub strings : parts.strings.now ≡ string_table file
  pub strings_size : length parts.strings.now ≡ tag_value file DT_STRSZ
  pub hash : IsHashTable file parts.hash
  pub symbols : parts.symbols.now ≡ symbol_table file
  pub symbols_size : length parts.symbols.now ≡ SYMBOL_SIZE * chain_count file
  pub rela : parts.rela.now ≡ rela_table file
  pub jmprel : parts.jmprel.now ≡ jmprel_table file
  pub needed_count : parts.needed_count ≡ length (needed_offsets file)
  pub soname : parts.soname ≡ soname_offset file
  pub symbolic : parts.symbolic ≡ is_symbolic file

-- `offsets` has the offsets of the needed libraries' names, and `parts` has the tables of the file
pub record HasTables (file offsets : List ℕ) (parts : Parts) : Type 0 where
  pub needed : offsets ≡ needed_offsets file
  pub has : HasParts file parts
