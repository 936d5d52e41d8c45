use Rattle.std.proofs.Common.{◌∙◌, [], ap, sym, set, get_or}
use Rattle.sector_disk.specs.declared.written.Written.{Written}
use Rattle.sector_disk.proofs.Contents.{contents_more}
use Rattle.sector_disk.proofs.written.apply.Goals as goal

pub loop-write-preserved : goal.loop-write-preserved
loop-write-preserved c =
    let none : Written = record { at = 0; content = [] } in
    let write : Written = get_or c.args.writes.now c.loop-write.write-index none in
    ap (λ l. set l write.at write.content) c.loop-write.invariant ∙ sym (contents_more c.args.sectors.now c.args.writes.now c.loop-write.write-index none c.loop-write-test.true)
