use Rattle.std.proofs.Common.{◌≡◌, ℕ, map, take}
use Rattle.std.specs.List.{filter_map}
use Rattle.elf_dynamic.specs.Relocation.{relocations}
use Rattle.image.specs.Bound.{value_in}
use Rattle.image.specs.Image.{heading, segments_byte}
use Rattle.image.specs.Relocating.{last_write_at, write_with, written_or}
use Rattle.image.proofs.relocate.relocate.Given as goal

abbrev pub invariant-loop-i : goal.invariant-loop-i
invariant-loop-i l = record {
  headings : map heading l.segments ≡ map heading l.fn.segments;
  bytes : (a : ℕ) → segments_byte l.segments a
      ≡ written_or (last_write_at (filter_map (write_with l.base (value_in l.values)) (take l.i (relocations l.object))) a)
      (segments_byte l.fn.segments a) a;
}
