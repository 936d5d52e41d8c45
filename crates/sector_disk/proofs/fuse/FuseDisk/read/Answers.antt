use Rattle.std.proofs.Common.{refl, sym, subst}
use Rattle.std.specs.Prelude.{Result, Err}
use Rattle.sector_disk.specs.declared.disk.DiskFault.{DiskFault}
use Rattle.sector_disk.specs.declared.disk.DiskFault.TheVariants.{Failed}
use Rattle.sector_disk.specs.Disk.{IsRead}
use Rattle.sector_disk.specs.Fuse.{fused}
use Rattle.sector_disk.proofs.Fused.{read_through, late_read}
use Rattle.sector_disk.proofs.fuse.FuseDisk.read.Goals as goal

pub returns-in-Pass-clause-honest : goal.returns-in-Pass-clause-honest
returns-in-Pass-clause-honest g c honest =
    let facts = g.D.Disk.facts in
    let self = c.args.self.now in
    let new = c.end_call.new.self in
    let past = self.past.items in
    subst (λ reply. IsRead (fused self.plan (facts self.inner) past) (fused new.plan (facts new.inner) new.past.items) c.args.at c.read-reply.new.into reply) (sym c.end_call.ensures.reply)
    (subst (λ plan. IsRead (fused self.plan (facts self.inner) past) (fused plan (facts new.inner) new.past.items) c.args.at c.read-reply.new.into c.read-reply.result) (sym c.end_call.ensures.plan)
    (subst (λ inner. IsRead (fused self.plan (facts self.inner) past) (fused self.plan (facts inner) new.past.items) c.args.at c.read-reply.new.into c.read-reply.result) (sym c.end_call.ensures.inner)
    (read_through self.plan (facts self.inner) (facts c.read-reply.new.self) past new.past.items _ c.end_call.ensures.past refl
    c.read-reply.ensures.calls.time c.args.at c.read-reply.new.into c.read-reply.result (c.read-reply.ensures.honest honest))))

pub returns-in-Late-clause-honest : goal.returns-in-Late-clause-honest
returns-in-Late-clause-honest g c honest =
    let facts = g.D.Disk.facts in
    let self = c.args.self.now in
    let new = c.end_call-in-Late.new.self in
    let past = self.past.items in
    let failed : Result Unit DiskFault = Err Failed in
    subst (λ reply. IsRead (fused self.plan (facts self.inner) past) (fused new.plan (facts new.inner) new.past.items) c.args.at c.read.new.into reply) (sym c.end_call-in-Late.ensures.reply)
    (subst (λ plan. IsRead (fused self.plan (facts self.inner) past) (fused plan (facts new.inner) new.past.items) c.args.at c.read.new.into failed) (sym c.end_call-in-Late.ensures.plan)
    (subst (λ inner. IsRead (fused self.plan (facts self.inner) past) (fused self.plan (facts inner) new.past.items) c.args.at c.read.new.into failed) (sym c.end_call-in-Late.ensures.inner)
    (late_read self.plan (facts self.inner) (facts c.read.new.self) past new.past.items _ c.end_call-in-Late.ensures.past refl
    c.read.ensures.calls.time c.args.at c.read.new.into c.read.result Failed (c.read.ensures.honest honest))))
