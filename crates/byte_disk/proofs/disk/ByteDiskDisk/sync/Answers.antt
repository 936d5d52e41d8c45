use Rattle.std.proofs.Common.{◌≡◌, ◌++◌, ◌∷◌, [], All, length, refl, subst, sym, ap, ◌∙◌, arith}
use Rattle.std.specs.Prelude.{nat_eq}
use Rattle.std.specs.HashMap.{get}
use Rattle.sector_disk.specs.Disk.{sector}
use Rattle.byte_disk.specs.declared.planned.PlannedStep.{PlannedStep}
use Rattle.byte_disk.specs.declared.step.Step.TheVariants.{Sync}
use Rattle.byte_disk.specs.Plan.{carried_out, writes_in, IsWriteOn}
use Rattle.byte_disk.specs.inside.Latest.{plan_in, content_by}
use Rattle.byte_disk.proofs.Kept.{failed_sync, made_call, made_sync, plan_push}
use Rattle.byte_disk.proofs.Latest.{latest_sync, writes_sync}
use Rattle.byte_disk.proofs.disk.ByteDiskDisk.sync.Goals as goal

pub returns-in-Err-clause-honest : goal.returns-in-Err-clause-honest
returns-in-Err-clause-honest c honest =
    let self = c.args.self.now in
    rw c.in-Err.ensures.items (failed_sync self.start.now self.planned.items self.idle c.end_call.new.self c.end_call.ensures.made)

pub invariant_of-self : goal.invariant_of-self
invariant_of-self c =
    let self = c.args.self.now in
    let start = self.start.now in
    let steps = plan_in self.planned.items in
    let p : PlannedStep = record { step = Sync; idle = self.idle } in
    let plan : plan_in c.make_step.new.planned.items ≡ steps ++ Sync ∷ [] = ap plan_in (c.make_step.ensures.made ∙ ap (λ l. l ++ p ∷ []) c.in-Ok.ensures.items) ∙ plan_push self.planned.items p in
    record {
      few = self.few;
      whole = self.whole;
      writes = subst (λ s. All (IsWriteOn (length start)) (writes_in s)) (sym plan) (writes_sync start steps self.whole self.writes (get nat_eq self.latest) self.is_latest);
      is_latest = λ k lt. subst (λ s. content_by start s k (get nat_eq self.latest k) ≡ sector (carried_out start s) k) (sym plan)
          (latest_sync start steps self.whole self.writes (get nat_eq self.latest) self.is_latest k lt);
    }

pub returns-in-Ok-clause-calls : goal.returns-in-Ok-clause-calls
returns-in-Ok-clause-calls c =
    let self = c.args.self.now in
    let p : PlannedStep = record { step = Sync; idle = self.idle } in
    made_call self.start.now self.planned.items self.idle c.make_step.new.planned.items c.make_step.new.idle p refl
    (c.make_step.ensures.made ∙ ap (λ l. l ++ p ∷ []) c.in-Ok.ensures.items) c.make_step.ensures.no_calls c.make_step.ensures.no_failures

pub returns-in-Ok-clause-honest : goal.returns-in-Ok-clause-honest
returns-in-Ok-clause-honest c honest =
    let self = c.args.self.now in
    let p : PlannedStep = record { step = Sync; idle = self.idle } in
    made_sync self.start.now self.planned.items self.idle c.make_step.new.planned.items c.make_step.new.idle p refl (c.make_step.ensures.made ∙ ap (λ l. l ++ p ∷ []) c.in-Ok.ensures.items) refl

pub returns-in-Err-clause-full : goal.returns-in-Err-clause-full
returns-in-Err-clause-full c = omega (arith, c.in-Err.ensures.full)
