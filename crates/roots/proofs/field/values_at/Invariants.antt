use Rattle.std.proofs.Common.{◌≡◌, ℕ, ◌+◌, ◌*◌, ◌<◌, length, get_or, drop, []}
use Rattle.roots.proofs.field.values_at.Given as goal

abbrev pub invariant-loop-i : goal.invariant-loop-i
invariant-loop-i g l = record {
  size : length l.values ≡ g.row.N;
  read : (k : ℕ) → k < l.i → get_or l.values k (g.T.Field.read []) ≡ g.T.Field.read (drop (l.at + g.T.Field.BYTES * k) l.sector);
}
