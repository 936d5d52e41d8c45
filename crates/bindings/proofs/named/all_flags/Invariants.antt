use Rattle.std.proofs.Common.{◌≡◌, ℕ, ◌<◌, ◌≤◌, [], length, map, get_or}
use Rattle.std.specs.Prelude.{vec_capacity}
use Rattle.image.specs.Relocating.{file_at}
use Rattle.bindings.specs.inside.Flags.{FileFlags}
use Rattle.bindings.proofs.named.all_flags.Given as goal

abbrev pub invariant-loop-own : goal.invariant-loop-own
invariant-loop-own l = record {
  counted : length l.all.items ≡ l.own;
  room : l.count ≤ vec_capacity l.all;
  each : (k : ℕ) → k < l.own → FileFlags (file_at l.objects k) (get_or (map (λ f. f.items) l.all.items) k []);
}
