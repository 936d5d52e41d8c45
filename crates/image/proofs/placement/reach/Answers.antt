use Rattle.std.proofs.Common.{◌-◌, arith}
use Rattle.elf_dynamic.proofs.Accepted.{LoadFits, load_fits, has_loads}
use Rattle.image.proofs.Placing.{last-reaches}
use Rattle.image.proofs.placement.reach.Goals as goal

pub overflow_sub-count : goal.overflow_sub-count
overflow_sub-count c = omega (arith, has_loads c.args.object.now c.segment_count-count.ensures.accepted, c.segment_count-count.ensures.count)

pub segment-last-requires : goal.segment-last-requires
segment-last-requires c = omega (arith, has_loads c.args.object.now c.segment_count-count.ensures.accepted, c.segment_count-count.ensures.count)

pub overflow_add-result : goal.overflow_add-result
overflow_add-result c =
    let fits : LoadFits c.args.object.now c.segment-last.result =
    load_fits c.args.object.now (c.segment_count-count.result - 1) c.segment-last.result c.segment-last.ensures.accepted c.segment-last.ensures.segment in
    omega (arith, fits.low)

pub returns : goal.returns
returns c =
    last-reaches c.args.object.now (c.segment_count-count.result - 1) c.segment-last.result c.segment-last.ensures.accepted c.segment-last.ensures.segment
    (omega (arith, has_loads c.args.object.now c.segment_count-count.ensures.accepted, c.segment_count-count.ensures.count))
