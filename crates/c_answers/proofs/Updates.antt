-- If the status of an update is 0, the buffer has its plan. No update returns S1 (Device).
use Rattle.std.proofs.Common.{◌≡◌, inl, inr, ℕ, List, arith}
use Rattle.std.specs.Prelude.{Result, Ok, Err}
use Rattle.byte_disk.specs.declared.disk.ByteDisk.{ByteDisk}
use Rattle.byte_disk.specs.declared.step.Step.{Step}
use Rattle.states.specs.State.{State}
use Rattle.requests.specs.Request.{Request}
use Rattle.requests.specs.declared.refusal.Refusal.{Refusal}
use Rattle.requests.specs.declared.reply.Reply.TheVariants as reply
use Rattle.byte_registry.specs.Plans.{synced_plan}
use Rattle.byte_registry.specs.Updated.{IsUpdateAsked}
use Rattle.c_answers.specs.declared.answer.Answer.{Answer}
use Rattle.c_answers.specs.declared.change_place.ChangePlace.{ChangePlace}
use Rattle.c_answers.specs.Changes.{Mean}
use Rattle.c_answers.specs.Update.{IsAskedTold, IsUpdateAnswered, IsUpdatePlan, IsUpdateTold}
use Rattle.c_answers.proofs.Device.{planned, told, turned}
use Rattle.c_answers.proofs.Given.{planned_done, refused_not_done, turned_not_done}

module _ (disk : List ℕ) (requests : List Request) (plan text : List ℕ) (answer : Answer) (status : ℕ) where
  given : status ≡ 0 → (s : State) (asked : Result (Unit {0}) (ℕ × Refusal)) (left : ByteDisk) → IsUpdateAsked disk s requests asked left
      → IsUpdateTold asked (synced_plan left) plan text answer status → IsUpdatePlan disk requests plan answer
  given zero s (Ok done) left asked said = record {
    state = s;
    steps = synced_plan left;
    holds = asked.holds;
    only = asked.only;
    leads = asked.leads;
    registry = asked.registry;
    plan = planned_done (synced_plan left) plan text answer status zero said;
  }
  given zero s (Err refused) left asked said = absurd (refused_not_done refused.1 text answer status zero said.why)

  asked_given : status ≡ 0 → IsAskedTold disk requests plan text answer status → IsUpdatePlan disk requests plan answer
  asked_given zero (inl asked) = given zero asked.0 asked.1 asked.2 asked.3 asked.4
  asked_given zero (inr unopened) = absurd (turned_not_done unopened.0 text answer status zero unopened.2)

  update_told : status ≡ 301 → (asked : Result (Unit {0}) (ℕ × Refusal)) (steps : List Step) → IsUpdateTold asked steps plan text answer status → ⊥
  update_told is (Ok done) steps said = planned text answer status is steps plan said
  update_told is (Err refused) steps said = told text answer status is (reply.Refused refused.1) said.why

  asked_not_device : status ≡ 301 → IsAskedTold disk requests plan text answer status → ⊥
  asked_not_device is (inl asked) = update_told is asked.1 (synced_plan asked.2) asked.4
  asked_not_device is (inr unopened) = turned text answer status is unopened.0 unopened.2

module _ (disk : List ℕ) (changes : List ChangePlace) (bytes plan text : List ℕ) (answer : Answer) (status : ℕ) where
  pub update_given : status ≡ 0 → IsUpdateAnswered disk changes bytes plan text answer status
      → (requests : List Request) × Mean bytes changes requests × IsUpdatePlan disk requests plan answer
  update_given zero (inl asked) = (asked.0, asked.1, asked_given disk asked.0 plan text answer status zero asked.2)
  update_given zero (inr (inl bad)) = absurd (omega (arith, zero, bad.0))
  update_given zero (inr (inr wants)) = absurd (omega (arith, zero, wants.0.status))

  pub update_not_device : status ≡ 301 → IsUpdateAnswered disk changes bytes plan text answer status → ⊥
  update_not_device is (inl asked) = asked_not_device disk asked.0 plan text answer status is asked.2
  update_not_device is (inr (inl bad)) = omega (arith, is, bad.0)
  update_not_device is (inr (inr wants)) = omega (arith, is, wants.0.status)
