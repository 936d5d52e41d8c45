use Rattle.std.proofs.Common.{◌⊎◌, ℕ, ◌<◌, ◌≤◌, IsTrue, sym, subst, arith}
use Rattle.std.specs.Prelude.{Contains}
use Rattle.std.proofs.lemmas.Result.{err_from_is_err_and}
use Rattle.sector_disk.proofs.Moments.{goes_on, left_now}
use Rattle.extents.specs.Limits.{root_sectors}
use Rattle.passes.proofs.Rows.{then_in_row, stop_in_row}
use Rattle.store.specs.Stands.{StandsBy, StandsAs, Stands}
use Rattle.store.specs.inside.Change.{IsBegun, Transition, staged_sectors}
use Rattle.store.proofs.Puts.{ok_both, staged_only, staged_stands, followed_done, followed_only, committed_others, staged_others}
use Rattle.store.proofs.Staging.{bytes_stay, staged_behind}
use Rattle.store.proofs.change.Change.carry_out.Given as given
use Rattle.store.proofs.change.Change.carry_out.Goals.{After-write_staged}
use Rattle.store.proofs.change.Change.carry_out.Goals as goal

behind : (g : given.Over) (c : After-write_staged g) (k : ℕ) → Contains (staged_sectors c.args.self.now.staged) k → root_sectors ≤ k
behind g c = staged_behind (g.D.Disk.facts c.args.disk.now).sectors c.args.self.now.staged c.args.listed.now c.requires.room

pub returns-in_err-write_staged-clause-carried_out : goal.returns-in_err-write_staged-clause-carried_out
returns-in_err-write_staged-clause-carried_out g c honest =
    let here = (goal.at.returns-in_err-write_staged-clause-carried_out g c).After-write_staged in
    let p = err_from_is_err_and c.from_residual.result c.from_residual.ensures.1 in
    rw (p.1, p.2) (record {
      any_moment = λ t begun. staged_only t.version t.root t.entries t.before begun.stands (Contains (staged_sectors c.args.self.now.staged)) (behind g here)
          begun.followed.unused (c.write_staged.ensures.any_moment honest) t.after;
      done = λ t begun. tt;
    })

pub returns-clause-carried_out : goal.returns-clause-carried_out
returns-clause-carried_out g c honest =
    let here = (goal.at.returns-clause-carried_out g c).After-write_staged in
    let now = (g.D.Disk.facts c.args.disk.now).now in
    let change = c.args.self.now in
    let bytes = c.args.bytes.now in
    let listed = c.args.listed.now in
    let honest_mid = subst IsTrue (sym c.write_staged.ensures.calls.honest) honest in
    let changed = Contains (staged_sectors change.staged) in
    let wrote = c.write_staged.ensures.any_moment honest in
    let staged = c.in_ok-write_staged.ensures.staged honest in
    let written = λ (t : Transition) (begun : IsBegun (g.D.Disk.facts c.args.disk.now) change bytes listed t).
    c.in_ok-write_staged.ensures.written honest t.written begun.followed.apart begun.followed.synced in
    let still = λ (t : Transition) (begun : IsBegun (g.D.Disk.facts c.args.disk.now) change bytes listed t).
    left_now (λ m. StandsBy t.version m t.root t.entries t.before) (staged_stands t.version t.root t.entries t.before begun.stands changed (behind g here) begun.followed.unused wrote) in
    let switched = c.switch_root.ensures in
    record {
      any_moment = λ t begun. goes_on (λ m. StandsAs t.version m t.before ⊎ Stands m t.after)
          (staged_only t.version t.root t.entries t.before begun.stands changed (behind g here) begun.followed.unused wrote t.after)
          (followed_only t.version t.root t.entries t.before now t.written change bytes listed t.others t.after (still t begun) staged (written t begun) begun.followed
          c.slot_of.result c.encode_root.result c.slot_of.ensures.value c.encode_root.ensures.spelling (switched.any_moment honest_mid));
      done = λ t begun. ok_both c.switch_root.result
          (followed_done t.version t.root t.entries t.before now t.written change bytes listed t.others t.after (still t begun) staged (written t begun) begun.followed
          c.slot_of.result c.encode_root.result c.slot_of.ensures.value c.encode_root.ensures.spelling (g.met.D.Disk.holds_now _ honest_mid) {new = g.D.Disk.facts c.switch_root.new.disk})
          (switched.synced honest_mid) (switched.now honest_mid);
    }

pub returns-clause-written : goal.returns-clause-written
returns-clause-written g c honest =
    let mid = g.D.Disk.facts c.write_staged.new.disk in
    let honest_mid = subst IsTrue (sym c.write_staged.ensures.calls.honest) honest in
    let low : c.slot_of.result < 2 = grind (arith, c.slot_of.ensures.value) in
    ok_both c.switch_root.result
    (bytes_stay (g.D.Disk.facts c.args.disk.now).sectors c.args.self.now.staged c.args.listed.now c.requires.room mid
    (g.D.Disk.facts c.switch_root.new.disk) c.args.bytes.now c.slot_of.result c.encode_root.result low
    (c.in_ok-write_staged.ensures.staged honest mid.now (g.met.D.Disk.holds_now _ honest_mid)))
    (c.switch_root.ensures.synced honest_mid) (c.switch_root.ensures.now honest_mid)

pub returns-in_err-write_staged-clause-others : goal.returns-in_err-write_staged-clause-others
returns-in_err-write_staged-clause-others g c honest = staged_others (staged_sectors c.args.self.now.staged) (c.write_staged.ensures.any_moment honest)

pub returns-clause-others : goal.returns-clause-others
returns-clause-others g c honest =
    let honest_mid = subst IsTrue (sym c.write_staged.ensures.calls.honest) honest in
    let low : c.slot_of.result < 2 = grind (arith, c.slot_of.ensures.value) in
    committed_others (staged_sectors c.args.self.now.staged)
    (c.write_staged.ensures.any_moment honest) c.slot_of.result c.encode_root.result low (c.switch_root.ensures.any_moment honest_mid)

pub returns-in_err-write_staged-clause-calls : goal.returns-in_err-write_staged-clause-calls
returns-in_err-write_staged-clause-calls g c = stop_in_row c.from_residual.result c.in_err-write_staged.ensures.calls (omega arith) c.from_residual.ensures.0

pub returns-clause-calls : goal.returns-clause-calls
returns-clause-calls g c = then_in_row c.in_ok-write_staged.ensures.calls c.switch_root.ensures.calls
