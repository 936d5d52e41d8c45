use Rattle.std.proofs.Common.{refl, sym, subst}
use Rattle.sector_disk.specs.Disk.{IsWrite}
use Rattle.sector_disk.specs.Fuse.{fused}
use Rattle.sector_disk.proofs.Fused.{write_through}
use Rattle.sector_disk.proofs.fuse.FuseDisk.write.Goals as goal

pub returns-in-Pass-clause-honest : goal.returns-in-Pass-clause-honest
returns-in-Pass-clause-honest g c honest =
    let facts = g.D.Disk.facts in
    let self = c.args.self.now in
    let past = c.end_call.new.self.past.items in
    subst (λ reply. IsWrite (fused self.plan (facts self.inner) self.past.items)
    (fused c.end_call.new.self.plan (facts c.end_call.new.self.inner) past) c.args.at c.args.from.now reply) (sym c.end_call.ensures.reply)
    (subst (λ plan. IsWrite (fused self.plan (facts self.inner) self.past.items)
    (fused plan (facts c.end_call.new.self.inner) past) c.args.at c.args.from.now c.write-reply.result) (sym c.end_call.ensures.plan)
    (subst (λ inner. IsWrite (fused self.plan (facts self.inner) self.past.items) (fused self.plan (facts inner) past) c.args.at c.args.from.now c.write-reply.result) (sym c.end_call.ensures.inner)
    (write_through self.plan (facts self.inner) (facts c.write-reply.new.self) self.past.items past _ c.end_call.ensures.past refl
    c.write-reply.ensures.calls.time c.args.at c.args.from.now c.write-reply.result (c.write-reply.ensures.honest honest))))
