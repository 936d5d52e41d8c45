use Rattle.std.proofs.Common.{◌≡◌, IsTrue, sym, subst, arith, ◌<◌}
use Rattle.std.proofs.lemmas.List.{get_or_default}
use Rattle.std.proofs.lemmas.List.Elements.{All-get_or}
use Rattle.sector_disk.specs.Disk.{sector}
use Rattle.passes.specs.declared.single.SingleSector.{SingleSector}
use Rattle.passes.proofs.Rows.{one_in_row, then_in_row, so_far_in_row, stop_in_row}
use Rattle.passes.proofs.Singles.{no_single, single_leaves, single_others, single_holds}
use Rattle.passes.proofs.single.write_singles.Goals as goal

pub returns-in_err-write-clause-any_moment : goal.returns-in_err-write-clause-any_moment
returns-in_err-write-clause-any_moment g c honest =
    let so_far = c.loop-single.invariant in
    let honest_now = subst IsTrue (sym so_far.calls.honest) honest in
    single_leaves so_far c.loop-single-test.true c.write.ensures.calls honest (g.met.D.Disk.holds_now _ honest_now) (c.write.ensures.honest honest_now)

pub returns-in_err-write-clause-calls : goal.returns-in_err-write-clause-calls
returns-in_err-write-clause-calls g c =
    let so_far = c.loop-single.invariant in
    stop_in_row c.from_residual.result (then_in_row so_far.calls (one_in_row c.in_err-write.ensures.calls)) (omega (arith, c.loop-single-test.true)) c.from_residual.ensures.0

pub loop-single-preserved : goal.loop-single-preserved
loop-single-preserved g c =
    let so_far = c.loop-single.invariant in
    let call = c.in_ok-write.ensures.calls in
    let honest_at = λ (honest : IsTrue (g.D.Disk.facts c.args.disk.now).honest). subst IsTrue (sym so_far.calls.honest) honest in
    let inside = All-get_or (λ (s : SingleSector). s.at < (g.D.Disk.facts c.args.disk.now).sectors) c.args.singles.now c.loop-single.single-index no_single c.loop-single-test.true c.requires.room in
    record {
      calls = so_far_in_row (omega arith) so_far.calls (one_in_row call);
      leaves = λ honest. single_leaves so_far c.loop-single-test.true call honest (g.met.D.Disk.holds_now _ (honest_at honest)) (c.in_ok-write.ensures.honest (honest_at honest));
      others = λ honest. single_others so_far c.loop-single-test.true call honest ((c.in_ok-write.ensures.honest (honest_at honest)).ok);
      holds = λ honest. single_holds so_far c.loop-single-test.true call c.requires.once (omega (arith, inside, so_far.calls.sectors)) honest
          (g.met.D.Disk.holds_now _ (honest_at honest)) ((c.in_ok-write.ensures.honest (honest_at honest)).ok);
    }

pub write-requires : goal.write-requires
write-requires g c = omega (arith, c.requires.room c.loop-single.single-index no_single c.loop-single-test.true, c.loop-single.invariant.calls.sectors)

pub returns-clause-any_moment : goal.returns-clause-any_moment
returns-clause-any_moment g c = c.loop-single.invariant.leaves

pub returns-clause-now : goal.returns-clause-now
returns-clause-now g c = c.loop-single.invariant.others

pub returns-clause-written : goal.returns-clause-written
returns-clause-written g c honest k d lt =
    subst (λ (s : SingleSector). sector (g.D.Disk.facts c.loop-single.disk).now s.at ≡ s.content) (get_or_default c.args.singles.now k no_single d lt)
    (c.loop-single.invariant.holds honest k (omega (arith, lt, c.loop-single-test.false)))
