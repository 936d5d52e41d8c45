use Rattle.std.proofs.Common.{sym, subst, List}
use Rattle.image.specs.Loading.{Loaded}
use Rattle.executable.specs.inside.Joining.{AreInRow}
use Rattle.executable.proofs.Merged.{row-of}
use Rattle.executable.proofs.merging.pieces_of.Goals as goal

pub merged-requires : goal.merged-requires
merged-requires c = subst (λ (ps : List Loaded). AreInRow 0 ps) (sym c.in_ok-pieces.ensures) (row-of c.args.segments.now c.requires)
