use Rattle.std.proofs.Common.{◌≡◌, ◌+◌, ◌-◌, ◌*◌, ◌≤◌, ◌++◌, IsTrue, length, get_or, take, drop, length-drop, length-take-le, sym, subst, ap, ◌∙◌, arith}
use Rattle.std.specs.List.{range_with_len}
use Rattle.std.proofs.lemmas.Slice.{take-put_mid, drop-put_mid}
use Rattle.std.proofs.lemmas.Grind.{flat_map-append}
use Rattle.sector_disk.specs.Disk.{sector}
use Rattle.extents.specs.declared.extent.Extent.{Extent}
use Rattle.extents.specs.Extent.{places}
use Rattle.passes.specs.Bytes.{bytes_at}
use Rattle.passes.proofs.Extents.{places_more, count_more, count_within}
use Rattle.passes.proofs.Readings.{then_reads, length_kept}
use Rattle.passes.proofs.Rows.{then_in_row, so_far_in_row, stop_in_row}
use Rattle.passes.proofs.read.read_bytes.Goals as goal

abbrev none : Extent
none = record { start = 0; count = 0 }

pub returns-in_err-read_run-clause-same : goal.returns-in_err-read_run-clause-same
returns-in_err-read_run-clause-same g c honest =
    let so_far = c.loop-extent.invariant in
    then_reads (so_far.reads honest) (c.read_run.ensures.same (subst IsTrue (sym so_far.calls.honest) honest))

pub returns-in_err-read_run-clause-calls : goal.returns-in_err-read_run-clause-calls
returns-in_err-read_run-clause-calls g c =
    let i = c.loop-extent.extent-index in
    let more = count_more c.args.extents.now i none c.loop-extent-test.true in
    let within = count_within c.args.extents.now (i + 1) in
    stop_in_row c.from_residual.result (then_in_row c.loop-extent.invariant.calls c.in_err-read_run.ensures.calls) (omega (arith, more, within)) c.from_residual.ensures.0

pub read_run-requires : goal.read_run-requires
read_run-requires g c =
    let i = c.loop-extent.extent-index in
    let e = get_or c.args.extents.now i none in
    let from = c.loop-extent.from in
    let so_far = c.loop-extent.invariant in
    let more = count_more c.args.extents.now i none c.loop-extent-test.true in
    let inside = c.requires.inside i none c.loop-extent-test.true in
    let k = from + 512 * e.count - from in
    record {
      room = omega (arith, so_far.calls.sectors, inside);
      fits = omega (arith, so_far.calls.sectors, c.requires.fits);
      size = length-take-le k (drop from c.loop-extent.into)
          (omega (arith, length-drop from c.loop-extent.into, so_far.length_is, so_far.from_is, c.requires.size, more, count_within c.args.extents.now (i + 1)))
          ∙ omega arith;
    }

pub loop-extent-preserved : goal.loop-extent-preserved
loop-extent-preserved g c =
    let so_far = c.loop-extent.invariant in
    let i = c.loop-extent.extent-index in
    let from = c.loop-extent.from in
    let e = get_or c.args.extents.now i none in
    let m = (g.D.Disk.facts c.args.disk.now).now in
    let k = from + 512 * e.count - from in
    let more = count_more c.args.extents.now i none c.loop-extent-test.true in
    let within = count_within c.args.extents.now (i + 1) in
    let size : length c.read_run.new.into ≡ 512 * e.count = omega (arith, c.in_ok-read_run.ensures.size, so_far.length_is, so_far.from_is, c.requires.size, more, within) in
    let room : from + k ≤ length c.loop-extent.into = omega (arith, so_far.length_is, so_far.from_is, c.requires.size, more, within) in
    let below : from ≤ length c.loop-extent.into = omega (arith, room) in
    let same_k : length c.read_run.new.into ≡ k = omega (arith, size) in
    let next : from + 512 * e.count ≡ from + length c.read_run.new.into = omega (arith, size) in
    let honest_at = λ (honest : IsTrue (g.D.Disk.facts c.args.disk.now).honest). subst IsTrue (sym so_far.calls.honest) honest in
    record {
      calls = so_far_in_row more so_far.calls c.in_ok-read_run.ensures.calls;
      reads = λ honest. then_reads (so_far.reads honest) (c.in_ok-read_run.ensures.same (honest_at honest));
      from_is = omega (arith, so_far.from_is, more);
      length_is = length_kept _ c.loop-extent.into c.read_run.new.into from (from + 512 * e.count)
          (take-put_mid from k c.loop-extent.into c.read_run.new.into (from + 512 * e.count) next below)
          (drop-put_mid from k c.loop-extent.into c.read_run.new.into (from + 512 * e.count) (omega arith) below same_k)
          next (omega (arith, room)) ∙ so_far.length_is;
      read = λ honest.
          let this = c.in_ok-read_run.ensures.read (honest_at honest) ∙ ap (λ l. bytes_at l (range_with_len e.start e.count)) (so_far.reads honest).same.now in
          take-put_mid from k c.loop-extent.into c.read_run.new.into (from + 512 * e.count) next below
          ∙ (λ j. so_far.read honest j ++ this j)
          ∙ sym (flat_map-append (sector m) (places (take i c.args.extents.now)) (range_with_len e.start e.count))
          ∙ ap (bytes_at m) (sym (places_more c.args.extents.now i none c.loop-extent-test.true));
    }
