use Rattle.std.proofs.Common.{◌≡◌, IsTrue, ◌+◌, ◌++◌, length, sym, subst, ap, ◌∙◌, arith}
use Rattle.std.specs.List.{Contains}
use Rattle.std.proofs.lemmas.Result.{on_ok_weaker}
use Rattle.sector_disk.specs.Disk.{IsMixtureBut, SameBut}
use Rattle.sector_disk.proofs.Mixtures.{synced_at_ok}
use Rattle.sector_disk.proofs.Writes.{sync_leaves}
use Rattle.extents.specs.Extent.{places, sector_count}
use Rattle.passes.specs.Bytes.{bytes_at}
use Rattle.passes.specs.Calls.{AreCallsInRow}
use Rattle.passes.specs.Singles.{single_places, HoldsSingles}
use Rattle.passes.proofs.Rows.{one_in_row, then_in_row, stop_in_row}
use Rattle.passes.proofs.pass.stage.Goals as goal

pub returns-clause-any_moment : goal.returns-clause-any_moment
returns-clause-any_moment g c honest =
    let honest_last = subst IsTrue (sym c.write_unsynced.ensures.calls.honest) honest in
    sync_leaves c.sync.ensures.calls (IsMixtureBut (Contains (single_places c.args.singles.now ++ places c.args.extents.now)) (g.D.Disk.facts c.args.disk.now))
    (c.sync.ensures.honest honest_last) (c.write_unsynced.ensures.any_moment honest)

pub returns-clause-synced : goal.returns-clause-synced
returns-clause-synced g c honest =
    let honest_last = subst IsTrue (sym c.write_unsynced.ensures.calls.honest) honest in
    let honest_now = subst IsTrue (sym c.sync.ensures.calls.honest) honest_last in
    synced_at_ok (g.met.D.Disk.holds_now _ honest_now) (c.sync.ensures.honest honest_last)

pub returns-clause-now : goal.returns-clause-now
returns-clause-now g c honest =
    let sync = c.sync.ensures.honest (subst IsTrue (sym c.write_unsynced.ensures.calls.honest) honest) in
    on_ok_weaker c.sync.result (λ _. subst (SameBut (Contains (single_places c.args.singles.now ++ places c.args.extents.now)) (g.D.Disk.facts c.args.disk.now).now)
    (sym sync.now) (c.in_ok-write_unsynced.ensures.now honest)) sync.stop_ok

pub returns-clause-written : goal.returns-clause-written
returns-clause-written g c honest =
    let sync = c.sync.ensures.honest (subst IsTrue (sym c.write_unsynced.ensures.calls.honest) honest) in
    on_ok_weaker c.sync.result (λ _. ap (λ m. bytes_at m (places c.args.extents.now)) sync.now ∙ c.in_ok-write_unsynced.ensures.written honest) sync.stop_ok

pub returns-clause-singles : goal.returns-clause-singles
returns-clause-singles g c honest =
    let sync = c.sync.ensures.honest (subst IsTrue (sym c.write_unsynced.ensures.calls.honest) honest) in
    on_ok_weaker c.sync.result (λ _. subst (λ m. HoldsSingles m c.args.singles.now) (sym sync.now) (c.in_ok-write_unsynced.ensures.singles honest)) sync.stop_ok

pub returns-in_err-write_unsynced-clause-calls : goal.returns-in_err-write_unsynced-clause-calls
returns-in_err-write_unsynced-clause-calls g c =
    stop_in_row c.from_residual.result c.in_err-write_unsynced.ensures.calls (omega arith) c.from_residual.ensures.0

pub returns-clause-calls : goal.returns-clause-calls
returns-clause-calls g c =
    then_in_row c.in_ok-write_unsynced.ensures.calls (one_in_row c.sync.ensures.calls)
