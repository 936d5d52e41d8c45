use Rattle.std.proofs.Common.{◌≡◌, ◌++◌, ◌∷◌, [], All, length, refl, subst, sym, ap, ◌∙◌}
use Rattle.std.specs.Prelude.{nat_eq, Some}
use Rattle.std.proofs.lemmas.List.{length-map}
use Rattle.std.specs.HashMap.{get}
use Rattle.sector_disk.specs.Disk.{sector}
use Rattle.byte_disk.specs.declared.planned.PlannedStep.{PlannedStep}
use Rattle.byte_disk.specs.declared.step.Step.TheVariants.{Write}
use Rattle.byte_disk.specs.Plan.{carried_out, writes_in, IsWriteOn}
use Rattle.byte_disk.specs.inside.Latest.{plan_in, content_by}
use Rattle.byte_disk.proofs.Kept.{failed_write, made_call, made_write, plan_push, same}
use Rattle.byte_disk.proofs.Latest.{latest_write, writes_write}
use Rattle.byte_disk.proofs.Whole.{is_whole}
use Rattle.byte_disk.proofs.disk.ByteDiskDisk.write.Goals as goal

pub returns-in-Err-clause-honest : goal.returns-in-Err-clause-honest
returns-in-Err-clause-honest c honest =
    let self = c.args.self.now in
    rw c.in-Err.ensures.same (failed_write self.start.now self.planned.items self.idle c.end_call.new.self c.end_call.ensures.made c.args.at c.args.from.now)

pub invariant_of-self : goal.invariant_of-self
invariant_of-self c =
    let self = c.args.self.now in
    let start = self.start.now in
    let steps = plan_in self.planned.items in
    let at = c.args.at in
    let content = c.args.from.now in
    let p : PlannedStep = record { step = Write at content; idle = self.idle } in
    let plan : plan_in c.make_step.new.planned.items ≡ steps ++ Write at content ∷ [] =
    ap plan_in (c.make_step.ensures.made ∙ ap (λ l. l ++ p ∷ []) c.in-Ok.ensures.same) ∙ plan_push self.planned.items p in
    let latest' = get nat_eq c.make_room.new.latest in
    let here : latest' at ≡ Some (length steps) = c.in-Ok.ensures.ok.1 ∙ ap (λ n. Some n) (sym (length-map self.planned.items (λ (x : PlannedStep). x.step))) in
    record {
      few = self.few;
      whole = self.whole;
      writes = subst (λ s. All (IsWriteOn (length start)) (writes_in s)) (sym plan)
          (writes_write start steps self.whole self.writes (get nat_eq self.latest) self.is_latest at content c.requires
          (is_whole content c.told-from c.fits-from));
      is_latest = λ k lt. subst (λ s. content_by start s k (latest' k) ≡ sector (carried_out start s) k) (sym plan)
          (latest_write start steps self.whole self.writes
          (get nat_eq self.latest) self.is_latest at content c.requires latest' here c.in-Ok.ensures.ok.2 k lt);
    }

pub returns-in-Ok-clause-calls : goal.returns-in-Ok-clause-calls
returns-in-Ok-clause-calls c =
    let self = c.args.self.now in
    let p : PlannedStep = record { step = Write c.args.at c.args.from.now; idle = self.idle } in
    made_call self.start.now self.planned.items self.idle c.make_step.new.planned.items c.make_step.new.idle p refl
    (c.make_step.ensures.made ∙ ap (λ l. l ++ p ∷ []) c.in-Ok.ensures.same) c.make_step.ensures.no_calls c.make_step.ensures.no_failures

pub returns-in-Ok-clause-honest : goal.returns-in-Ok-clause-honest
returns-in-Ok-clause-honest c honest =
    let self = c.args.self.now in
    let p : PlannedStep = record { step = Write c.args.at c.args.from.now; idle = self.idle } in
    made_write self.start.now self.planned.items self.idle c.make_step.new.planned.items c.make_step.new.idle p refl
    (c.make_step.ensures.made ∙ ap (λ l. l ++ p ∷ []) c.in-Ok.ensures.same) c.args.at c.args.from.now refl c.requires

pub returns-in-Err-clause-err : goal.returns-in-Err-clause-err
returns-in-Err-clause-err c =
    let self = c.args.self.now in
    rw c.in-Err.ensures.same (same self.start.now self.planned.items self.idle c.end_call.new.self)
