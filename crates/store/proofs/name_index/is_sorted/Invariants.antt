use Rattle.std.proofs.Common.{◌≡◌, ◌<◌, ◌+◌, ℕ, slice_index}
use Rattle.std.specs.declared.cmp.Ordering.TheVariants.{Less}
use Rattle.store.specs.NameOrder.{entry_names, name_order}
use Rattle.store.proofs.name_index.is_sorted.Given as goal

abbrev pub invariant-loop-i : goal.invariant-loop-i
invariant-loop-i l =
    (k : ℕ) → k + 1 < l.i → name_order (entry_names l.entries) (slice_index l.positions k) (slice_index l.positions (k + 1)) ≡ Less
