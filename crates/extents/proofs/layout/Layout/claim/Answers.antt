use Rattle.std.proofs.Common.{refl}
use Rattle.extents.proofs.layout.Layout.claim.Goals as goal

pub returns-then-not-is_unused-clause-err : goal.returns-then-not-is_unused-clause-err
returns-then-not-is_unused-clause-err c = refl
