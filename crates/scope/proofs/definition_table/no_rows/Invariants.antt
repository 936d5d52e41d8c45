use Rattle.std.proofs.Common.{◌≡◌, ◌<◌, ◌≤◌, ℕ, [], length, map}
use Rattle.std.specs.Prelude.{slice_index_or}
use Rattle.std.specs.Vec.{vec_len, vec_capacity}
use Rattle.elf_dynamic.specs.Symbol.{symbols}
use Rattle.scope.specs.Objects.{file_at}
use Rattle.scope.proofs.definition_table.no_rows.Given as goal

abbrev pub invariant-loop-object : goal.invariant-loop-object
invariant-loop-object l = record {
  len : vec_len l.rows ≡ l.object-index;
  room : length l.objects ≤ vec_capacity l.rows;
  size : length (map (λ r. r.items) l.rows.items) ≡ l.object-index;
  sizes : (p : ℕ) → p < l.object-index → length (slice_index_or (map (λ r. r.items) l.rows.items) p []) ≡ length (symbols (file_at l.objects p));
}
