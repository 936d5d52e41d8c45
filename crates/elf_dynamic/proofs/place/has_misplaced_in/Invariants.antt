use Rattle.std.proofs.Common.{◌≡◌, ℕ, ◌<◌, false}
use Rattle.std.specs.Prelude.{IfSome}
use Rattle.elf_file.specs.Address.{IsLoadOf}
use Rattle.elf_dynamic.specs.Relocation.{nth_relocation, is_misplaced}
use Rattle.elf_dynamic.proofs.place.has_misplaced_in.Given as goal

abbrev pub invariant-loop-i : goal.invariant-loop-i
invariant-loop-i l = record {
  last : IfSome l.last (IsLoadOf l.segments);
  none : (k : ℕ) → k < l.i → is_misplaced l.segments (nth_relocation l.table k) ≡ false;
}
