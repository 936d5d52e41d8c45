use Rattle.std.proofs.Common.{refl, sym, subst, rules}
use Rattle.std.specs.Prelude.{Result, Err}
use Rattle.sector_disk.specs.declared.disk.DiskFault.{DiskFault}
use Rattle.sector_disk.specs.declared.disk.DiskFault.TheVariants.{Failed}
use Rattle.sector_disk.specs.Disk.{IsSync}
use Rattle.sector_disk.specs.Fuse.{fused}
use Rattle.sector_disk.proofs.Fused.{sync_through, late_sync}
use Rattle.sector_disk.proofs.fuse.FuseDisk.sync.Goals as goal

pub returns-in-Pass-clause-honest : goal.returns-in-Pass-clause-honest
returns-in-Pass-clause-honest g c honest =
    let facts = g.D.Disk.facts in
    let self = c.args.self.now in
    let new = c.end_call.new.self in
    let past = self.past.items in
    subst (λ reply. IsSync (fused self.plan (facts self.inner) past) (fused new.plan (facts new.inner) new.past.items) reply) (sym c.end_call.ensures.reply)
    (subst (λ plan. IsSync (fused self.plan (facts self.inner) past) (fused plan (facts new.inner) new.past.items) c.sync-reply.result) (sym c.end_call.ensures.plan)
    (subst (λ inner. IsSync (fused self.plan (facts self.inner) past) (fused self.plan (facts inner) new.past.items) c.sync-reply.result) (sym c.end_call.ensures.inner)
    (sync_through self.plan (facts self.inner)
    (facts c.sync-reply.new.self) past new.past.items _ c.end_call.ensures.past refl c.sync-reply.ensures.calls.time c.sync-reply.result
    (c.sync-reply.ensures.honest honest))))

pub returns-in-Late-clause-honest : goal.returns-in-Late-clause-honest
returns-in-Late-clause-honest g c honest =
    let facts = g.D.Disk.facts in
    let self = c.args.self.now in
    let new = c.end_call-in-Late.new.self in
    let past = self.past.items in
    let failed : Result Unit DiskFault = Err Failed in
    subst (λ reply. IsSync (fused self.plan (facts self.inner) past) (fused new.plan (facts new.inner) new.past.items) reply) (sym c.end_call-in-Late.ensures.reply)
    (subst (λ plan. IsSync (fused self.plan (facts self.inner) past) (fused plan (facts new.inner) new.past.items) failed) (sym c.end_call-in-Late.ensures.plan)
    (subst (λ inner. IsSync (fused self.plan (facts self.inner) past) (fused self.plan (facts inner) new.past.items) failed) (sym c.end_call-in-Late.ensures.inner)
    (late_sync self.plan (facts self.inner) (facts c.sync.new.self) past new.past.items _ c.end_call-in-Late.ensures.past refl
    c.sync.ensures.calls.time c.sync.result Failed (c.sync.ensures.honest honest))))

pub returns-in-Late-clause-outcome : goal.returns-in-Late-clause-outcome
returns-in-Late-clause-outcome g c = search rules
