-- The counts and values that the code stores for the tags of the dynamic section.
use Rattle.std.specs.Prelude.{ℕ, ◌+◌, ◌/◌, ◌≤◌, ◌≡◌, map, length, List, Option, Some}
use Rattle.std.specs.Prelude.{None, ◌==◌, count_by, slice_index_or, unwrap_or, if◌then◌else◌}
use Rattle.std.specs.Option.{option_map}
use Rattle.std.specs.List.{find, range_with_len}
use Rattle.elf_file.specs.Constant.{DYNAMIC_ENTRY_SIZE, DT_NEEDED, DT_PLTRELSZ, DT_HASH, DT_STRTAB, DT_SYMTAB, DT_RELA, DT_RELASZ, DT_RELAENT, DT_STRSZ, DT_SYMENT}
use Rattle.elf_file.specs.Constant.{DT_SONAME, DT_SYMBOLIC, DT_REL, DT_PLTREL, DT_JMPREL, DT_FLAGS, DT_RELR, DT_VERSYM, DT_VERDEF, DT_VERNEED}
use Rattle.elf_file.specs.Dynamic.{has_tag, dynamic_section, entry, entries_in}
use Rattle.elf_file.specs.declared.entry.Entry.{Entry}
use Rattle.elf_file.specs.declared.tag_table.Slot.{Slot}
use Rattle.elf_file.specs.declared.tag_table.Tags.{Tags}

-- the place, in the table, of the tag with this number, if the tag has a place
abbrev pub place_of : ℕ → Option ℕ
place_of number =
    if number == DT_NEEDED then Some 0 else
    if number == DT_PLTRELSZ then Some 1 else
    if number == DT_HASH then Some 2 else
    if number == DT_STRTAB then Some 3 else
    if number == DT_SYMTAB then Some 4 else
    if number == DT_RELA then Some 5 else
    if number == DT_RELASZ then Some 6 else
    if number == DT_RELAENT then Some 7 else
    if number == DT_STRSZ then Some 8 else
    if number == DT_SYMENT then Some 9 else
    if number == DT_SONAME then Some 10 else
    if number == DT_SYMBOLIC then Some 11 else
    if number == DT_REL then Some 12 else
    if number == DT_PLTREL then Some 13 else
    if number == DT_JMPREL then Some 14 else
    if number == DT_FLAGS then Some 15 else
    if number == DT_RELR then Some 16 else
    if number == DT_VERSYM then Some 17 else
    if number == DT_VERDEF then Some 18 else
    if number == DT_VERNEED then Some 19 else
    None

-- a tag's slot: the number of entries with the tag, and the value of the first of them, or 0 if
-- there is none
abbrev pub slot_of : List Entry → ℕ → Slot
slot_of es tag = record { count = count_by (has_tag tag) es; value = unwrap_or (option_map (λ e. e.value) (find (has_tag tag) es)) 0 }

-- `slot` with one more entry counted, whose value is `value`
abbrev pub slot_more : ℕ → Slot → Slot
slot_more value slot = record { count = slot.count + 1; value = if slot.count == 0 then value else slot.value }

-- the slot of `tag` after one more entry of the section
abbrev pub slot_and : ℕ → Entry → Slot → Slot
slot_and tag e slot = if has_tag tag e then slot_more e.value slot else slot

-- for each tag that has a place in the table, the table has the right slot
abbrev pub IsTable : List Entry → List Slot → Type 0
IsTable es slots = (n k : ℕ) (d : Slot) → place_of n ≡ Some k → slice_index_or slots k d ≡ slot_of es n

-- `tags` has the values that the code stores for the tags of a section
pub record IsTagsOf (section : List ℕ) (tags : Tags) : Type 0 where
  pub entries : entries_in section ≡ map (entry section) (range_with_len 0 tags.count)
  pub within : tags.count ≤ length section / DYNAMIC_ENTRY_SIZE
  pub table : IsTable (entries_in section) tags.table.slots

-- the section is the file's dynamic section, and `tags` has the values that the code stores for its tags
pub record HasTags (file section : List ℕ) (tags : Tags) : Type 0 where
  pub same : section ≡ dynamic_section file
  pub kept : IsTagsOf section tags
