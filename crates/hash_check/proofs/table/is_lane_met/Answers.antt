use Rattle.hash_check.proofs.Exported.{exported_within}
use Rattle.std.proofs.Common.{get_or}
use Rattle.hash_check.proofs.table.is_lane_met.Goals as goal

pub is_met_by_hash-requires-clause-index : goal.is_met_by_hash-requires-clause-index
is_met_by_hash-requires-clause-index c =
    exported_within c.args.object.now (get_or c.args.lanes.now.symbols c.args.k 0) ((c.requires.lanes.each c.args.k c.requires.within).exported c.if-symbol-eq0.false)
