use Rattle.std.proofs.Common.{◌≡◌, ◌≤◌, map, drop, length}
use Rattle.std.specs.List.{range_with_len}
use Rattle.std.specs.Vec.{vec_capacity}
use Rattle.elf_file.specs.FirstOf.{first_of}
use Rattle.image.specs.Bound.{FirstBound}
use Rattle.image.specs.Refusal.{undefined_in, undefined_refusal}
use Rattle.image.proofs.bound.all_bound.Given as goal

abbrev pub invariant-loop-own : goal.invariant-loop-own
invariant-loop-own l = record {
  counted : length l.bound.items ≡ l.own;
  room : length l.objects ≤ vec_capacity l.bound;
  each : FirstBound l.objects l.bound.items;
  first : first_of (map (undefined_in l.objects) (drop l.own (range_with_len 0 (length l.objects)))) ≡ undefined_refusal l.objects;
}
