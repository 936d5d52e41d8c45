use Rattle.std.proofs.Common.{◌≡◌, ◌+◌, ◌∙◌, refl, set, subst, sym, arith}
use Rattle.sector_disk.specs.inside.MemoryLaws.{memory_holds}
use Rattle.sector_disk.specs.Disk.{sector, GrowsBy}
use Rattle.sector_disk.specs.Memory.{memory_facts}
use Rattle.file_disk.proofs.Media.{written_same, written_more}
use Rattle.file_disk.proofs.medium.put.Goals as goal

pub returns-in-Err-clause-written : goal.returns-in-Err-clause-written
returns-in-Err-clause-written c = written_same c.args.at c.args.from.now c.loop-content.done _ _ _ c.loop-content.invariant.written c.write.ensures.calls.sectors c.in-Err.ensures.err

pub loop-content-preserved : goal.loop-content-preserved
loop-content-preserved c =
    let holds = memory_holds c.args.medium.now in
    let is = c.loop-content.invariant.done in
    let wrote = c.in-Ok.ensures.honest refl in
    let now : (memory_facts c.write.new.self).now ≡ set (memory_facts c.loop-content.medium).now (c.args.at + c.loop-content.done) (sector c.args.from.now c.loop-content.content-index) = wrote.ok in
    let grows : GrowsBy (memory_facts c.loop-content.medium) (memory_facts c.write.new.self) (c.args.at + c.loop-content.done) (sector c.args.from.now c.loop-content.content-index) = wrote.stop_ok in
    record {
      failures = c.in-Ok.ensures.calls.ok ∙ c.loop-content.invariant.failures;
      done = omega (arith, is);
      written = written_more c.args.at c.args.from.now c.loop-content.done _ _ _ (omega (arith, holds.size, c.requires.inside, c.loop-content-test.true, is))
          c.loop-content.invariant.written c.write.ensures.calls.sectors
          (subst (λ i. (memory_facts c.write.new.self).now ≡ set (memory_facts c.loop-content.medium).now (c.args.at + c.loop-content.done) (sector c.args.from.now i)) (sym is) now)
          (subst (λ i. GrowsBy (memory_facts c.loop-content.medium) (memory_facts c.write.new.self) (c.args.at + c.loop-content.done) (sector c.args.from.now i)) (sym is) grows);
    }
