use Rattle.std.proofs.Common.{◌*◌, ◌<◌, length, arith}
use Rattle.c_answers.proofs.Zeros.{page_more}
use Rattle.c_answers.proofs.put.clear.Goals as goal

pub loop-page-preserved : goal.loop-page-preserved
loop-page-preserved c =
    let more : c.loop-page.page * 4096 < length c.loop-page.out = omega (arith, c.loop-page-test.true, c.div_ceil-page-end.ensures, c.loop-page.auto.out) in
    page_more c.loop-page.out c.put_at.new.out c.loop-page.page c.min-count.result more c.put_at.ensures.size c.min-count.ensures c.loop-page.invariant c.put_at.ensures.front
