use Rattle.std.proofs.Common.{IsTrue, sym, subst, ◌∙◌, arith}
use Rattle.std.proofs.lemmas.Result.{on_ok_weaker}
use Rattle.sector_disk.specs.Disk.{IsMixtureOrSet}
use Rattle.sector_disk.proofs.Mixtures.{synced_at_ok}
use Rattle.sector_disk.proofs.Writes.{sync_leaves, one_write_leaves}
use Rattle.passes.proofs.Rows.{one_in_row, then_in_row, stop_in_row}
use Rattle.passes.proofs.pass.switch_root.Goals as goal

pub returns-in_err-write-clause-any_moment : goal.returns-in_err-write-clause-any_moment
returns-in_err-write-clause-any_moment g c honest =
    one_write_leaves c.write.ensures.calls c.requires.room (g.met.D.Disk.holds_now _ honest) (c.write.ensures.honest honest)

pub returns-clause-any_moment : goal.returns-clause-any_moment
returns-clause-any_moment g c honest =
    let honest_then = subst IsTrue (sym c.write.ensures.calls.honest) honest in
    let written = one_write_leaves c.write.ensures.calls c.requires.room (g.met.D.Disk.holds_now _ honest) (c.write.ensures.honest honest) in
    sync_leaves c.sync.ensures.calls (IsMixtureOrSet (g.D.Disk.facts c.args.disk.now) c.args.at c.args.root.now) (c.sync.ensures.honest honest_then) written

pub returns-clause-synced : goal.returns-clause-synced
returns-clause-synced g c honest =
    let honest_then = subst IsTrue (sym c.write.ensures.calls.honest) honest in
    let honest_now = subst IsTrue (sym c.sync.ensures.calls.honest) honest_then in
    synced_at_ok (g.met.D.Disk.holds_now _ honest_now) (c.sync.ensures.honest honest_then)

pub returns-clause-now : goal.returns-clause-now
returns-clause-now g c honest =
    let sync = c.sync.ensures.honest (subst IsTrue (sym c.write.ensures.calls.honest) honest) in
    on_ok_weaker c.sync.result (λ _. sync.now ∙ (c.in_ok-write.ensures.honest honest).ok) sync.stop_ok

pub returns-in_err-write-clause-calls : goal.returns-in_err-write-clause-calls
returns-in_err-write-clause-calls g c =
    stop_in_row c.from_residual.result (one_in_row c.in_err-write.ensures.calls) (omega arith) c.from_residual.ensures.0

pub returns-clause-calls : goal.returns-clause-calls
returns-clause-calls g c = then_in_row (one_in_row c.in_ok-write.ensures.calls) (one_in_row c.sync.ensures.calls)
