use Rattle.std.proofs.Common.{◌≡◌, refl, sym, subst, ◌∙◌}
use Rattle.sector_disk.specs.Disk.{IsWrite}
use Rattle.passes.specs.Bytes.{padded}
use Rattle.passes.proofs.Padding.{padded-long, padded-short}
use Rattle.passes.proofs.run.write_sector.Goals as goal

pub returns-in-Some-clause-honest : goal.returns-in-Some-clause-honest
returns-in-Some-clause-honest g c honest =
    let same : padded 512 c.args.bytes.now ≡ c.in-Some.whole.now = padded-long 512 c.args.bytes.now (c.in-Some.ensures.variant.0 refl) ∙ sym c.in-Some.ensures.cases.0 in
    subst (λ content. IsWrite (g.D.Disk.facts c.args.disk.now) (g.D.Disk.facts c.write.new.self) c.args.at content c.write.result) (sym same) (c.write.ensures.honest honest)

pub returns-clause-honest : goal.returns-clause-honest
returns-clause-honest g c honest =
    let same = padded-short 512 c.args.bytes.now c.requires.fits ∙ sym c.with_zeros.ensures in
    subst (λ content. IsWrite (g.D.Disk.facts c.args.disk.now) (g.D.Disk.facts c.write-2.new.self) c.args.at content c.write-2.result) (sym same) (c.write-2.ensures.honest honest)

pub returns-in-Some-clause-calls : goal.returns-in-Some-clause-calls
returns-in-Some-clause-calls g c = c.write.ensures.calls

pub returns-clause-calls : goal.returns-clause-calls
returns-clause-calls g c = c.write-2.ensures.calls
