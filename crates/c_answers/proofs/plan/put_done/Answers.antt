use Rattle.std.proofs.Common.{◌∷◌, ◌-◌, ◌^◌, ◌∙◌, List, length, min, inl, inr, ap, arith}
use Rattle.std.proofs.lemmas.List.{length-map}
use Rattle.byte_disk.specs.declared.planned.PlannedStep.{PlannedStep}
use Rattle.byte_disk.specs.declared.step.Step.{Step}
use Rattle.byte_disk.specs.declared.step.Step.TheVariants.{Sync}
use Rattle.c_answers.specs.Spelling.{plan_bytes}
use Rattle.c_answers.specs.declared.answer.Answer.{Answer}
use Rattle.c_answers.proofs.Given.{nothing_said}
use Rattle.c_answers.proofs.plan.put_done.Goals as goal

pub returns-in-Some-clause-planned : goal.returns-in-Some-clause-planned
returns-in-Some-clause-planned c =
    let is = ap (λ (l : List Step). Sync ∷ l) c.behind_sync-steps.ensures in
    let unsaid = c.tell.ensures.1 in (
      inl (
        record {
          bytes = c.in-Some.ensures.end ∙ ap (λ l. length (plan_bytes l)) is;
          spelled = c.in-Some.ensures.spelled ∙ ap plan_bytes is;
          count = omega (arith, length-map c.behind_sync-steps.result.now (λ (p : PlannedStep). p.step), ap length c.behind_sync-steps.ensures);
        },
        c.tell.ensures.0,
      ),
      record { preloads = unsaid.unlisted.preloads; generation = unsaid.unlisted.generation },
      record { objects = unsaid.unbound.objects },
    )

pub returns-in-None-clause-planned : goal.returns-in-None-clause-planned
returns-in-None-clause-planned c =
    let is = ap (λ (l : List Step). Sync ∷ l) c.behind_sync-steps.ensures in
    let said = nothing_said c.of.result 1 c.of.ensures in (
      inr (
        record {
          status = ap (λ (a : Answer). a.status) c.of.ensures;
          small = omega (arith, c.in-None.ensures.small, ap (λ l. length (plan_bytes l)) is);
          needed = c.plan_bytes.ensures ∙ ap (λ l. min (length (plan_bytes l)) (2 ^ 64 - 1)) is;
          count = omega (arith, length-map c.behind_sync-steps.result.now (λ (p : PlannedStep). p.step), ap length c.behind_sync-steps.ensures);
        },
        record { text = said.1.text; file = said.1.file },
      ),
      record { preloads = said.0.unlisted.preloads; generation = said.0.unlisted.generation },
      record { objects = said.0.unbound.objects },
    )
