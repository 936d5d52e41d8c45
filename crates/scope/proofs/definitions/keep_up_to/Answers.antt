use Rattle.std.proofs.Common.{arith}
use Rattle.scope.proofs.definitions.keep_up_to.Goals as goal

pub returns-else-symbols-at-clause-up_to : goal.returns-else-symbols-at-clause-up_to
returns-else-symbols-at-clause-up_to c = record {
  within = c.loop-at.invariant.within;
  low = c.loop-at.invariant.low;
  high = λ k ge lt. omega (arith, c.requires.numbered.are.rising c.loop-at.at k ge lt);
}
