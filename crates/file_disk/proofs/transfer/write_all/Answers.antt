use Rattle.std.proofs.Common.{rules, ◌≡◌, ◌+◌, ◌-◌, ◌<◌, ℕ, List, length, slice_range, subst, sym, arith}
use Rattle.std.proofs.lemmas.List.{places}
use Rattle.sector_disk.specs.Disk.{Sector, sector}
use Rattle.file_disk.proofs.Transfers.{IsWrittenSoFar, written_more, written_fewer}
use Rattle.file_disk.proofs.transfer.write_all.Goals as goal
use Rattle.file_disk.proofs.transfer.write_all.Goals.{in-Ok, in-Err+else-ne}

-- the number of sectors that are still to be written
left_length : (from : List Sector) (done : ℕ) → length (slice_range from done (length from)) ≡ length from - done
left_length from done = search (rules, places)

left_at : (from : List Sector) (done j : ℕ) → j < length (slice_range from done (length from)) → sector (slice_range from done (length from)) j ≡ sector from (done + j)
left_at from done j lt = search (rules, places)

pub returns-then-ne-clause-err : goal.returns-then-ne-clause-err
returns-then-ne-clause-err g c honest =
    let from : List Sector = c.args.from.now in
    let done : ℕ = c.loop.done in
    let long = left_length from done in
    written_fewer c.args.at from _ _ _ (written_more c.args.at from (slice_range from done (length from)) done (left_at from done) (omega (arith, long, c.loop.invariant.few))
    _ _ _ _ _ (omega arith) (c.loop.invariant.so_far honest) (c.in-Err.ensures.honest honest)).written

pub loop-preserved : goal.loop-preserved
loop-preserved g c =
    let from : List Sector = c.args.from.now in
    let done : ℕ = c.loop.done in
    let long = left_length from done in
    let facts = g.F.SectorFile.facts in
    let So_far = λ (n : ℕ). IsWrittenSoFar c.args.at from n (c.loop.counter + 1) (facts c.args.file.now) (facts c.write_at.new.self) in
    record {
      few = elim c.match-write_at.branch [
        | in-Ok w ↦ omega (arith, w.done-is, w.in-Ok.ensures.bound, long, c.loop.invariant.few)
        | in-Err+else-ne w ↦ omega (arith, w.done-is, c.loop.invariant.few)
      ];
      so_far = λ honest. elim c.match-write_at.branch [
        | in-Ok w ↦ subst So_far (sym w.done-is)
            (written_more c.args.at from (slice_range from done (length from)) done (left_at from done) (omega (arith, long, c.loop.invariant.few))
            _ _ _ _ _ w.in-Ok.ensures.bound (c.loop.invariant.so_far honest) (w.in-Ok.ensures.honest honest))
        | in-Err+else-ne w ↦
            let still : done + 0 ≡ c.match-write_at.done = omega (arith, w.done-is) in
            subst So_far still
            (written_more c.args.at from (slice_range from done (length from)) done (left_at from done) (omega (arith, long, c.loop.invariant.few))
            _ _ _ _ _ (omega arith) (c.loop.invariant.so_far honest) (w.in-Err.ensures.honest honest))
      ];
    }
