use Rattle.hash_check.proofs.Deciding.{bad_test}
use Rattle.hash_check.proofs.table.has_bad_hash_table.Goals as goal

pub has_good_table-requires-clause-whole : goal.has_good_table-requires-clause-whole
has_good_table-requires-clause-whole c = c.requires.whole

pub returns-clause-ok : goal.returns-clause-ok
returns-clause-ok c = bad_test c.args.object.now c.in_ok-good.good c.in_ok-good.ensures.ok.0 c.in_ok-good.ensures.ok.1
