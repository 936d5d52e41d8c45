use Rattle.std.proofs.Common.{arith}
use Rattle.hash_check.proofs.SharedNames.{few-differ, test-none}
use Rattle.hash_check.proofs.duplicates.few_exports.Goals as goal

pub returns-then-exported_count-lt2-clause-ok : goal.returns-then-exported_count-lt2-clause-ok
returns-then-exported_count-lt2-clause-ok c = (
  test-none c.args.object.now (few-differ c.args.object.now (omega (arith, c.exported_count.ensures, c.if-exported_count-lt2.true))),
  c.none.ensures.exports,
  λ some. absurd (some c.none.ensures.none),
)
