use Rattle.hash_check.proofs.Exported.{exported_some, exported_within}
use Rattle.hash_check.proofs.table.test_by_name.Goals as goal

pub is_met_by_hash-requires-clause-index : goal.is_met_by_hash-requires-clause-index
is_met_by_hash-requires-clause-index c = exported_within c.args.object.now c.args.i c.requires.exported

pub is_met_by_hash-requires-clause-nonzero : goal.is_met_by_hash-requires-clause-nonzero
is_met_by_hash-requires-clause-nonzero c = exported_some c.args.object.now c.args.i c.requires.exported
