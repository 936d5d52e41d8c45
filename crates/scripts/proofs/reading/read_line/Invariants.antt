use Rattle.std.specs.Io.KnownBytes.{Consumes}
use Rattle.scripts.specs.Line.{IsLine}
use Rattle.scripts.proofs.reading.read_line.Given as goal

abbrev pub invariant-loop : goal.invariant-loop
invariant-loop g l = Consumes (g.R.Read.remaining l.initial.reader) (g.R.Read.remaining l.reader) l.line.items × IsLine l.line.items
