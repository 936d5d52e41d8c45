use Rattle.std.proofs.Common.{length, ap, arith}
use Rattle.extents.specs.Runs.{unused_runs}
use Rattle.extents.proofs.layout.Layout.run_count.Goals as goal
use Rattle.extents.proofs.UnusedFlags.{unused_runs-flags_of}

pub returns : goal.returns
returns c = omega (
  arith,
  ap length c.as_slice.ensures,
  ap length (unused_runs-flags_of c.self.inside.sectors c.self.inside.runs.items c.self.invariant.apart),
  ap (λ flags. length (unused_runs flags)) c.self.view_is,
)
