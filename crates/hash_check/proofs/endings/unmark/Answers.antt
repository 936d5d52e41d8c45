use Rattle.std.proofs.Common.{arith, inl, inr}
use Rattle.std.proofs.lemmas.Bool.{cases_lt}
use Rattle.hash_check.proofs.endings.unmark.Goals as goal

pub returns-clause-high : goal.returns-clause-high
returns-clause-high c = λ n past. elim (cases_lt n c.args.from) [
  | inl low ↦ c.loop-n.invariant.low n low
  | inr ge ↦ c.loop-n.invariant.high n (elim (cases_lt c.min-n-end.result c.args.from) [
    | inl none ↦ omega (arith, ge, c.loop-n.invariant.idle none)
    | inr some ↦ omega (arith, past, c.loop-n.auto.n-end some, c.min-n-end.ensures)
  ])
]
