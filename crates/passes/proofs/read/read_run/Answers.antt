use Rattle.std.proofs.Common.{◌≡◌, ◌+◌, ◌-◌, ◌*◌, ◌≤◌, ◌++◌, ◌∷◌, [], IsTrue, length, drop, length-drop, length-take-le, refl, sym, subst, ap, ◌∙◌, arith}
use Rattle.std.specs.List.{range_with_len}
use Rattle.std.proofs.lemmas.List.{append-nil}
use Rattle.std.proofs.lemmas.Slice.{take-put_mid, drop-put_mid}
use Rattle.std.proofs.lemmas.Grind.{flat_map-append}
use Rattle.sector_disk.specs.Disk.{sector}
use Rattle.passes.specs.Bytes.{bytes_at}
use Rattle.passes.proofs.Readings.{more_reads, length_kept}
use Rattle.passes.proofs.Rows.{one_in_row, then_in_row, so_far_in_row, stop_in_row}
use Rattle.passes.proofs.Runs.{range_more}
use Rattle.passes.proofs.read.read_run.Goals as goal

pub returns-in_err-read_sector-clause-same : goal.returns-in_err-read_sector-clause-same
returns-in_err-read_sector-clause-same g c honest =
    let so_far = c.loop-done.invariant in
    more_reads (so_far.reads honest) c.read_sector.ensures.calls (c.read_sector.ensures.honest (subst IsTrue (sym so_far.calls.honest) honest))

pub returns-in_err-read_sector-clause-calls : goal.returns-in_err-read_sector-clause-calls
returns-in_err-read_sector-clause-calls g c =
    stop_in_row c.from_residual.result (then_in_row c.loop-done.invariant.calls (one_in_row c.in_err-read_sector.ensures.calls)) (omega (arith, c.loop-done-test.true)) c.from_residual.ensures.0

pub read_sector-requires : goal.read_sector-requires
read_sector-requires g c =
    let so_far = c.loop-done.invariant in
    let from = 512 * c.loop-done.done in
    record {
      room = omega (arith, so_far.calls.sectors, c.requires.room, c.loop-done-test.true);
      size = length-take-le (from + 512 - from) (drop from c.loop-done.into) (omega (arith, length-drop from c.loop-done.into, so_far.length_is, c.requires.size, c.loop-done-test.true)) ∙ omega arith;
    }

pub loop-done-preserved : goal.loop-done-preserved
loop-done-preserved g c =
    let so_far = c.loop-done.invariant in
    let n = c.loop-done.done in
    let m = (g.D.Disk.facts c.args.disk.now).now in
    let from : 512 * n ≤ length c.loop-done.into = omega (arith, so_far.length_is, c.requires.size, c.loop-done-test.true) in
    let room : 512 * (n + 1) ≤ length c.loop-done.into = omega (arith, so_far.length_is, c.requires.size, c.loop-done-test.true) in
    let k = 512 * n + 512 - 512 * n in
    let read_at = λ (honest : IsTrue (g.D.Disk.facts c.args.disk.now).honest). c.in_ok-read_sector.ensures.honest (subst IsTrue (sym so_far.calls.honest) honest) in
    let next : 512 * (n + 1) ≡ 512 * n + length c.read_sector.new.into = omega (arith, c.in_ok-read_sector.ensures.size) in
    record {
      calls = so_far_in_row refl so_far.calls (one_in_row c.in_ok-read_sector.ensures.calls);
      reads = λ honest. more_reads (so_far.reads honest) c.in_ok-read_sector.ensures.calls (read_at honest);
      length_is = length_kept _ c.loop-done.into c.read_sector.new.into (512 * n) (512 * (n + 1))
          (take-put_mid (512 * n) k c.loop-done.into c.read_sector.new.into (512 * (n + 1)) next from)
          (drop-put_mid (512 * n) k c.loop-done.into c.read_sector.new.into (512 * (n + 1)) (omega arith) from (omega (arith, c.in_ok-read_sector.ensures.size)))
          next room ∙ so_far.length_is;
      read = λ honest.
          let this = (read_at honest).ok ∙ ap (λ l. sector l (c.args.extent.start + n)) (so_far.reads honest).same.now in
          take-put_mid (512 * n) k c.loop-done.into c.read_sector.new.into (512 * (n + 1)) next from
          ∙ (λ i. so_far.read honest i ++ this i)
          ∙ ap (λ l. bytes_at m (range_with_len c.args.extent.start n) ++ l) (sym (append-nil (sector m (c.args.extent.start + n))))
          ∙ sym (flat_map-append (sector m) (range_with_len c.args.extent.start n) ((c.args.extent.start + n) ∷ []))
          ∙ ap (bytes_at m) (sym (range_more c.args.extent.start n));
    }
