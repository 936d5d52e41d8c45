use Rattle.std.proofs.Common.{ℕ, List, sym, subst}
use Rattle.std.proofs.lemmas.Result.{err_from_is_err_and}
use Rattle.scripts.specs.Line.{IsLine}
use Rattle.scripts.proofs.Lines.{stops_line}
use Rattle.scripts.proofs.reading.read_line.Goals as goal

pub returns-in_err-got-clause-part : goal.returns-in_err-got-clause-part
returns-in_err-got-clause-part g c =
    let p = err_from_is_err_and c.from_residual.result c.from_residual.ensures.1 in
    rw p.1 (stops_line c.read_part.new.line.items (subst IsLine (sym {A = List ℕ} c.in_err-got.ensures.same) c.loop.invariant.1))

pub returns-clause-part : goal.returns-clause-part
returns-clause-part g c = stops_line c.loop.line.items c.loop.invariant.1
