use Rattle.hash_check.proofs.Gathering.{IsOpen}
use Rattle.hash_check.proofs.strings.endings_of.Given as goal

abbrev pub invariant-loop-number : goal.invariant-loop-number
invariant-loop-number l = IsOpen l.object l.symbols l.number l.first l.stretch l.endings.items
