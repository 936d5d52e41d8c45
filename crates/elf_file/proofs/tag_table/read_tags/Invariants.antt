use Rattle.std.proofs.Common.{◌≡◌, map, false}
use Rattle.std.specs.List.{list_any, range_with_len}
use Rattle.elf_file.specs.Dynamic.{entry, is_null}
use Rattle.elf_file.specs.inside.Tags.{IsTable}
use Rattle.elf_file.proofs.tag_table.read_tags.Given as goal

abbrev pub invariant-loop-i : goal.invariant-loop-i
invariant-loop-i l = record {
  none : list_any is_null (map (entry l.section) (range_with_len 0 l.i)) ≡ false;
  slots : IsTable (map (entry l.section) (range_with_len 0 l.i)) l.table.slots;
}
