use Rattle.std.proofs.Common.{sym, subst}
use Rattle.std.proofs.lemmas.Result.{err_from_is_err_and}
use Rattle.states.specs.Geometry.{IsGeometry}
use Rattle.store.specs.Opening.{RefusesLook}
use Rattle.store.specs.Stands.{StandsEither}
use Rattle.store.proofs.Founds.{finds, finds_none}
use Rattle.store.proofs.Openings.{root_refused, entries_refused}
use Rattle.store.proofs.find.find_store.Goals as goal

pub returns-in_err-root-clause-finds : goal.returns-in_err-root-clause-finds
returns-in_err-root-clause-finds g c =
    let now = (g.D.Disk.facts c.args.disk.now).now in
    let e = c.in_err-root.field-0.0 in
    let read = c.in_err-root.ensures in
    let p = err_from_is_err_and c.from_residual.result c.from_residual.ensures.1 in
    rw (p.1, p.2) (finds_none (RefusesLook StandsEither) e c.read_root.ensures.calls read.device c.read_root.ensures.reads
    (λ honest. root_refused now (subst IsGeometry (sym (g.met.D.Disk.holds_now _ honest).size) c.requires) e (read.refused honest)))

pub returns-clause-finds : goal.returns-clause-finds
returns-clause-finds g c =
    let now = (g.D.Disk.facts c.args.disk.now).now in
    let root = c.in_ok-root.root in
    let read = c.in_ok-root.ensures in
    let found = c.find_entries.ensures in
    finds (RefusesLook StandsEither) root c.find_entries.result read.all_calls found.found
    c.read_root.ensures.reads read.synced found.same read.current found.intact found.refused
    (λ honest. entries_refused now (subst IsGeometry (sym (g.met.D.Disk.holds_now _ honest).size) c.requires) root (read.current honest))
