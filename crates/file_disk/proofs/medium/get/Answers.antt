use Rattle.std.proofs.Common.{◌+◌, ◌∙◌, [], refl, ap, arith, below_more}
use Rattle.std.proofs.lemmas.List.{get_or-set_same, get_or-set_other}
use Rattle.sector_disk.specs.Disk.{sector}
use Rattle.file_disk.proofs.Media.{known_ok, same_more}
use Rattle.file_disk.proofs.medium.get.Goals as goal

pub loop-i-preserved : goal.loop-i-preserved
loop-i-preserved c =
    let before = c.loop-i.invariant in
    let read = c.read.ensures.honest refl in
    record {
      still = same_more _ _ _ before.still c.read.ensures.calls.sectors read.same;
      read = below_more _ _
          (λ j lt. get_or-set_other c.loop-i.into c.loop-i.i j c.read.new.into [] (omega (arith, lt)) ∙ before.read j lt)
          (get_or-set_same c.loop-i.into c.loop-i.i c.read.new.into [] (omega (arith, c.loop-i-test.true)) ∙ known_ok c.read.result _ c.read.ensures.ok read.ok ∙ ap (λ now. sector now (c.args.at + c.loop-i.i)) before.still.same.now);
    }
