use Rattle.std.proofs.Common.{◌≡◌, IsTrue, ◌+◌, ◌<◌, ◌++◌, length, take, drop, All, sym, subst, ap, ◌∙◌, arith}
use Rattle.std.specs.List.{Contains}
use Rattle.std.proofs.lemmas.List.Elements.{All-same, All-take, All-drop, Contains-append_left, Contains-append_right}
use Rattle.std.proofs.lemmas.Result.{on_ok_weaker}
use Rattle.sector_disk.specs.Disk.{IsMixtureBut, SameBut}
use Rattle.sector_disk.proofs.Mixtures.{same_more, synced_at_ok}
use Rattle.sector_disk.proofs.Writes.{sync_leaves}
use Rattle.extents.specs.Extent.{places, sector_count}
use Rattle.passes.specs.Bytes.{IsOnDisk, bytes_at}
use Rattle.passes.specs.declared.single.SingleSector.{SingleSector}
use Rattle.passes.specs.Calls.{AreCallsInRow}
use Rattle.passes.specs.Singles.{single_places, HoldsSingles}
use Rattle.passes.proofs.Commits.{wider, wider_leaves}
use Rattle.passes.proofs.Files.{more_leaves}
use Rattle.passes.proofs.Parts.{parts_of, front_among, back_among, front_once, back_once, parts_apart, whole_held, still_held, on_ok_both}
use Rattle.passes.proofs.Rows.{one_in_row, then_in_row, stop_in_row}
use Rattle.passes.proofs.Runs.{bytes_at_same}
use Rattle.passes.proofs.pass.write_unsynced.Goals as goal

pub write_singles-requires-clause-room : goal.write_singles-requires-clause-room
write_singles-requires-clause-room g c =
    let P = λ (s : SingleSector). s.at < (g.D.Disk.facts c.args.disk.now).sectors in
    let singles = c.args.singles.now in
    All-same P _ (take c.count_before.result singles) c.split_at.ensures.front (All-take P c.count_before.result singles c.requires.room)

pub write_singles-requires-clause-once : goal.write_singles-requires-clause-once
write_singles-requires-clause-once g c =
    front_once (parts_of c.count_before.result c.args.singles.now _ _ c.split_at.ensures.front c.split_at.ensures.back) c.requires.once

pub write_bytes-requires-clause-inside : goal.write_bytes-requires-clause-inside
write_bytes-requires-clause-inside g c =
    subst (λ sectors. All (IsOnDisk sectors) c.args.extents.now) (sym c.write_singles.ensures.calls.sectors) c.requires.inside

pub write_singles-requires-2-clause-room : goal.write_singles-requires-2-clause-room
write_singles-requires-2-clause-room g c =
    let P = λ (s : SingleSector). s.at < (g.D.Disk.facts c.write_bytes.new.disk).sectors in
    let singles = c.args.singles.now in
    let room = subst (λ sectors. All (λ (s : SingleSector). s.at < sectors) singles) (sym (c.write_bytes.ensures.calls.sectors ∙ c.write_singles.ensures.calls.sectors)) c.requires.room in
    All-same P _ (drop c.count_before.result singles) c.split_at.ensures.back (All-drop P c.count_before.result singles room)

pub write_singles-requires-2-clause-once : goal.write_singles-requires-2-clause-once
write_singles-requires-2-clause-once g c =
    back_once (parts_of c.count_before.result c.args.singles.now _ _ c.split_at.ensures.front c.split_at.ensures.back) c.requires.once

pub returns-in_err-write_singles-clause-any_moment : goal.returns-in_err-write_singles-clause-any_moment
returns-in_err-write_singles-clause-any_moment g c honest =
    let parts = parts_of c.count_before.result c.args.singles.now _ _ c.split_at.ensures.front c.split_at.ensures.back in
    let ks = places c.args.extents.now in
    let at = single_places c.args.singles.now in
    let f = single_places c.split_at.result.0.now in
    wider_leaves (Contains f) (Contains (at ++ ks)) (λ k found. Contains-append_left at ks k (front_among parts k found)) (c.write_singles.ensures.any_moment honest)

pub returns-in_err-write_bytes-clause-any_moment : goal.returns-in_err-write_bytes-clause-any_moment
returns-in_err-write_bytes-clause-any_moment g c honest =
    let parts = parts_of c.count_before.result c.args.singles.now _ _ c.split_at.ensures.front c.split_at.ensures.back in
    let ks = places c.args.extents.now in
    let at = single_places c.args.singles.now in
    let f = single_places c.split_at.result.0.now in
    let honest_then = subst IsTrue (sym c.write_singles.ensures.calls.honest) honest in
    more_leaves (Contains ks) (Contains (at ++ ks)) (Contains-append_right at ks)
    (wider_leaves (Contains f) (Contains (at ++ ks)) (λ k found. Contains-append_left at ks k (front_among parts k found)) (c.write_singles.ensures.any_moment honest))
    (c.write_bytes.ensures.any_moment honest_then)

pub returns-in_err-write_singles-clause-calls : goal.returns-in_err-write_singles-clause-calls
returns-in_err-write_singles-clause-calls g c =
    stop_in_row c.from_residual.result c.in_err-write_singles.ensures.calls (omega arith) c.from_residual.ensures.0

pub returns-in_err-write_bytes-clause-calls : goal.returns-in_err-write_bytes-clause-calls
returns-in_err-write_bytes-clause-calls g c =
    stop_in_row c.from_residual-in_err-write_bytes.result
    (then_in_row c.in_ok-write_singles.ensures.calls c.in_err-write_bytes.ensures.calls) (omega arith) c.from_residual-in_err-write_bytes.ensures.0

pub returns-clause-any_moment : goal.returns-clause-any_moment
returns-clause-any_moment g c honest =
    let parts = parts_of c.count_before.result c.args.singles.now _ _ c.split_at.ensures.front c.split_at.ensures.back in
    let ks = places c.args.extents.now in
    let at = single_places c.args.singles.now in
    let f = single_places c.split_at.result.0.now in
    let b = single_places c.split_at.result.1.now in
    let honest_then = subst IsTrue (sym c.write_singles.ensures.calls.honest) honest in
    let honest_after = subst IsTrue (sym c.write_bytes.ensures.calls.honest) honest_then in
    more_leaves (Contains b) (Contains (at ++ ks)) (λ k found. Contains-append_left at ks k (back_among parts k found))
    (more_leaves (Contains ks) (Contains (at ++ ks)) (Contains-append_right at ks)
    (wider_leaves (Contains f) (Contains (at ++ ks)) (λ k found. Contains-append_left at ks k (front_among parts k found)) (c.write_singles.ensures.any_moment honest))
    (c.write_bytes.ensures.any_moment honest_then))
    (c.write_singles-2.ensures.any_moment honest_after)

pub returns-clause-now : goal.returns-clause-now
returns-clause-now g c honest =
    let parts = parts_of c.count_before.result c.args.singles.now _ _ c.split_at.ensures.front c.split_at.ensures.back in
    let ks = places c.args.extents.now in
    let at = single_places c.args.singles.now in
    let honest_then = subst IsTrue (sym c.write_singles.ensures.calls.honest) honest in
    let honest_after = subst IsTrue (sym c.write_bytes.ensures.calls.honest) honest_then in
    let first = wider {more = Contains (at ++ ks)} (λ k found. Contains-append_left at ks k (front_among parts k found)) (c.in_ok-write_singles.ensures.now honest) in
    let then = same_more (Contains-append_right at ks) first (c.in_ok-write_bytes.ensures.now honest_then) in
    on_ok_weaker c.write_singles-2.result (λ last. same_more (λ k found. Contains-append_left at ks k (back_among parts k found)) then last) (c.write_singles-2.ensures.now honest_after)

pub returns-clause-written : goal.returns-clause-written
returns-clause-written g c honest =
    let parts = parts_of c.count_before.result c.args.singles.now _ _ c.split_at.ensures.front c.split_at.ensures.back in
    let ks = places c.args.extents.now in
    let honest_then = subst IsTrue (sym c.write_singles.ensures.calls.honest) honest in
    let honest_after = subst IsTrue (sym c.write_bytes.ensures.calls.honest) honest_then in
    on_ok_weaker c.write_singles-2.result
    (λ same. bytes_at_same _ _ ks (λ k found. same.others k (λ here. c.requires.elsewhere k (back_among parts k here) found)) ∙ c.in_ok-write_bytes.ensures.written honest_then)
    (c.write_singles-2.ensures.now honest_after)

pub returns-clause-singles : goal.returns-clause-singles
returns-clause-singles g c honest =
    let parts = parts_of c.count_before.result c.args.singles.now _ _ c.split_at.ensures.front c.split_at.ensures.back in
    let ks = places c.args.extents.now in
    let front = c.split_at.result.0.now in
    let b = single_places c.split_at.result.1.now in
    let honest_then = subst IsTrue (sym c.write_singles.ensures.calls.honest) honest in
    let honest_after = subst IsTrue (sym c.write_bytes.ensures.calls.honest) honest_then in
    let beside = still_held (Contains ks) _ _ front (c.in_ok-write_bytes.ensures.now honest_then)
    (λ k found here. c.requires.elsewhere k (front_among parts k found) here) (c.in_ok-write_singles.ensures.written honest) in
    on_ok_both c.write_singles-2.result
    (λ now written. whole_held parts _ (still_held (Contains b) _ _ front now (parts_apart parts c.requires.once) beside) written)
    (c.write_singles-2.ensures.now honest_after) (c.write_singles-2.ensures.written honest_after)

pub returns-clause-calls : goal.returns-clause-calls
returns-clause-calls g c =
    let calls =
    then_in_row c.in_ok-write_singles.ensures.calls (then_in_row c.in_ok-write_bytes.ensures.calls c.write_singles-2.ensures.calls) in
    let sum : length c.split_at.result.0.now + (sector_count c.args.extents.now + length c.split_at.result.1.now) ≡ sector_count c.args.extents.now + length c.args.singles.now =
    omega arith in
    subst (λ n. AreCallsInRow n (g.D.Disk.facts c.args.disk.now) (g.D.Disk.facts c.write_singles-2.new.disk) c.write_singles-2.result) sum calls
