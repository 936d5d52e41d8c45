-- The dynamic section and the tests of its entries (gABI chapter 5).
use Rattle.std.specs.Prelude.{ℕ, ◌+◌, ◌*◌, ◌/◌, ◌%◌, List, [], ◌∷◌, map, take_while, filter, bit_and, count_by}
use Rattle.std.specs.Prelude.{length, Option, unwrap_or, is_some, Bool, false, not, ◌==◌, ◌||◌, ◌&&◌, nat_lt, nat_le}
use Rattle.std.specs.Option.{option_map, option_map_or}
use Rattle.std.specs.List.{list_any, range_with_len, find}
use Rattle.elf_file.specs.Number.{number_at}
use Rattle.elf_file.specs.Constant.{PT_DYNAMIC, DYNAMIC_ENTRY_SIZE, SYMBOL_SIZE, RELOCATION_SIZE, DF_SYMBOLIC, DT_NULL, DT_NEEDED, DT_PLTRELSZ}
use Rattle.elf_file.specs.Constant.{DT_HASH, DT_STRTAB, DT_SYMTAB, DT_RELA, DT_RELASZ, DT_RELAENT, DT_STRSZ, DT_SYMENT, DT_SONAME}
use Rattle.elf_file.specs.Constant.{DT_SYMBOLIC, DT_REL, DT_PLTREL, DT_JMPREL, DT_FLAGS, DT_RELR, DT_VERSYM, DT_VERDEF, DT_VERNEED}
use Rattle.elf_file.specs.Segment.{program_headers, contents}
use Rattle.elf_file.specs.declared.entry.Entry.{Entry}
use Rattle.elf_file.specs.declared.segment.ProgramHeader.{ProgramHeader}

-- the segment is a PT_DYNAMIC
abbrev pub is_dynamic : ProgramHeader → Bool
is_dynamic h = h.kind == PT_DYNAMIC

-- the number of PT_DYNAMICs
unfoldable pub dynamic_count : List ℕ → ℕ
dynamic_count file = count_by is_dynamic (program_headers file)

-- the first PT_DYNAMIC
unfoldable pub find_dynamic : List ℕ → Option ProgramHeader
find_dynamic file = find is_dynamic (program_headers file)

-- a segment's bytes end at or before the file's end
abbrev pub is_whole : List ℕ → ProgramHeader → Bool
is_whole file h = nat_le (h.offset + h.file_size) (length file)

-- exactly one PT_DYNAMIC is present, and its bytes are in the file
abbrev pub has_dynamic : List ℕ → Bool
has_dynamic file = (dynamic_count file == 1) && option_map_or (is_whole file) (find_dynamic file) false

-- the bytes of the dynamic section; no bytes if there is no PT_DYNAMIC
unfoldable pub dynamic_section : List ℕ → List ℕ
dynamic_section file = option_map_or (contents file) (find_dynamic file) []

-- the entry at offset `at` of a section: a tag and a value
abbrev pub entry_at : List ℕ → ℕ → Entry
entry_at section at = record { tag = number_at 8 section at; value = number_at 8 section (at + 8) }

-- entry number `i` of a section
unfoldable pub entry : List ℕ → ℕ → Entry
entry section i = entry_at section (DYNAMIC_ENTRY_SIZE * i)

-- the whole entries of a section
unfoldable pub whole_entries : List ℕ → List Entry
whole_entries section = map (entry section) (range_with_len 0 (length section / DYNAMIC_ENTRY_SIZE))

-- the entry is a DT_NULL, which ends the section
abbrev pub is_null : Entry → Bool
is_null e = e.tag == DT_NULL

-- the entry has the tag `tag`
abbrev pub has_tag : ℕ → Entry → Bool
has_tag tag e = e.tag == tag

-- one of the whole entries of a section is a DT_NULL
unfoldable pub is_ended : List ℕ → Bool
is_ended section = list_any is_null (whole_entries section)

-- the entries of a section before its first DT_NULL
unfoldable pub entries_in : List ℕ → List Entry
entries_in section = take_while (λ e. not (is_null e)) (whole_entries section)

-- the entries of the file's dynamic section
unfoldable pub entries : List ℕ → List Entry
entries file = entries_in (dynamic_section file)

-- E15: there isn't exactly one PT_DYNAMIC, or its bytes run past the file's end or have no DT_NULL
abbrev pub has_bad_dynamic : List ℕ → Bool
has_bad_dynamic file = not (has_dynamic file) || not (is_ended (dynamic_section file))

-- the number of entries with the tag `tag`
unfoldable pub tag_count : List ℕ → ℕ → ℕ
tag_count file tag = count_by (has_tag tag) (entries file)

-- the first entry with a tag, if there is one
unfoldable pub find_entry : List ℕ → ℕ → Option Entry
find_entry file tag = find (has_tag tag) (entries file)

-- a tag is present
abbrev pub is_present : List ℕ → ℕ → Bool
is_present file tag = is_some (find_entry file tag)

-- the value of the first entry with the tag, or 0 if the tag is absent; no test and no accessor
-- reads the value of an absent tag
unfoldable pub tag_value : List ℕ → ℕ → ℕ
tag_value file tag = unwrap_or (option_map (λ e. e.value) (find_entry file tag)) 0

-- the offsets of the names of the needed libraries, in the order of their entries
unfoldable pub needed_offsets : List ℕ → List ℕ
needed_offsets file = map (λ e. e.value) (filter (has_tag DT_NEEDED) (entries file))

-- the tags that may be present only once
abbrev pub single_tags : List ℕ
single_tags =
    DT_PLTRELSZ ∷ DT_HASH ∷ DT_STRTAB ∷ DT_SYMTAB ∷ DT_RELA ∷ DT_RELASZ ∷ DT_RELAENT ∷ DT_STRSZ ∷ DT_SYMENT ∷ DT_SONAME
    ∷ DT_SYMBOLIC ∷ DT_REL ∷ DT_PLTREL ∷ DT_JMPREL ∷ DT_FLAGS ∷ DT_RELR ∷ DT_VERSYM ∷ DT_VERDEF ∷ DT_VERNEED ∷ []

-- E16: one of the tags that may be present only once is present more than once
unfoldable pub has_duplicate_tag : List ℕ → Bool
has_duplicate_tag file = list_any (λ tag. nat_lt 1 (tag_count file tag)) single_tags

-- E17: a table of symbol versions is present
abbrev pub has_symbol_versions : List ℕ → Bool
has_symbol_versions file = is_present file DT_VERSYM || is_present file DT_VERDEF || is_present file DT_VERNEED

-- DT_FLAGS is present and has the bit DF_SYMBOLIC
abbrev pub is_flagged_symbolic : List ℕ → Bool
is_flagged_symbolic file = is_present file DT_FLAGS && not (bit_and (tag_value file DT_FLAGS) DF_SYMBOLIC == 0)

-- a lookup of a symbol to which the object refers begins with the object itself: DT_SYMBOLIC is
-- present, or DT_FLAGS has the bit DF_SYMBOLIC
unfoldable pub is_symbolic : List ℕ → Bool
is_symbolic file = is_present file DT_SYMBOLIC || is_flagged_symbolic file

-- E18: relocations without addends (DT_REL) or in short form (DT_RELR) are present
abbrev pub has_unsupported_tag : List ℕ → Bool
has_unsupported_tag file = is_present file DT_REL || is_present file DT_RELR

-- E19: no hash table is present
abbrev pub has_no_hash_table : List ℕ → Bool
has_no_hash_table file = not (is_present file DT_HASH)

-- a tag of the string table or of the symbol table is absent
abbrev pub lacks_symbol_tag : List ℕ → Bool
lacks_symbol_tag file =
    not (is_present file DT_STRTAB) || not (is_present file DT_SYMTAB) || not (is_present file DT_STRSZ) || not (is_present file DT_SYMENT)

-- E20: a tag of the string table or of the symbol table is absent, or a table of relocations is
-- present and a tag that it requires is absent
abbrev pub has_missing_tag : List ℕ → Bool
has_missing_tag file =
    lacks_symbol_tag file
    || (is_present file DT_RELA && (not (is_present file DT_RELASZ) || not (is_present file DT_RELAENT)))
    || (is_present file DT_JMPREL && (not (is_present file DT_PLTRELSZ) || not (is_present file DT_PLTREL)))

-- the size isn't a multiple of the size of a relocation
abbrev pub is_part : ℕ → Bool
is_part size = not (size % RELOCATION_SIZE == 0)

-- E21: the size of symbols or the size or kind of relocations is wrong, or a table ends within a relocation
abbrev pub has_bad_entry_size : List ℕ → Bool
has_bad_entry_size file =
    not (tag_value file DT_SYMENT == SYMBOL_SIZE)
    || (is_present file DT_RELA && (not (tag_value file DT_RELAENT == RELOCATION_SIZE) || is_part (tag_value file DT_RELASZ)))
    || (is_present file DT_JMPREL && (not (tag_value file DT_PLTREL == DT_RELA) || is_part (tag_value file DT_PLTRELSZ)))
