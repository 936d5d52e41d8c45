-- How the latest content of a sector is found.
use Rattle.std.proofs.Common.{◌≡◌, ⊎_elim, ℕ, ◌<◌, List, [], length, get_or, All, sym, ◌∙◌, ap, subst, arith}
use Rattle.std.proofs.lemmas.Bool.{cases_lt}
use Rattle.std.proofs.lemmas.List.{length-map, get_or_past, get_or-map}
use Rattle.std.proofs.lemmas.List.Elements.{All-get_or}
use Rattle.std.specs.Prelude.{Option, Some}
use Rattle.sector_disk.specs.Disk.{Sector, sector, sector_bytes, IsWhole}
use Rattle.byte_disk.specs.declared.planned.PlannedStep.{PlannedStep}
use Rattle.byte_disk.specs.declared.step.Step.{Step}
use Rattle.byte_disk.specs.declared.step.Step.TheVariants.{Sync}
use Rattle.byte_disk.specs.Plan.{carried_out, writes_in, IsWriteOn}
use Rattle.byte_disk.specs.inside.Latest.{plan_in, content_of, content_by}
use Rattle.byte_disk.specs.inside.PlanLaws.{length-carried_out, carried_out_whole}

-- if the content at a place has as many bytes as a sector, there is a step at this place
pub place_in : (steps : List Step) (place : ℕ) (now : Sector) → length now ≡ sector_bytes → content_of (get_or steps place Sync) ≡ now → place < length steps
place_in steps place now whole is = ⊎_elim
    (λ lt. lt)
    (λ past. let empty : length (content_of (get_or steps place Sync)) ≡ 0 =
    ap (λ step. length (content_of step)) (get_or_past steps place Sync past) in absurd (omega (arith, empty, ap length is, whole)))
    (cases_lt place (length steps))

-- what reads return of a sector is whole
pub now_whole : (start : List Sector) (steps : List Step) (k : ℕ) → k < length start → All IsWhole start
    → All (IsWriteOn (length start)) (writes_in steps) → length (sector (carried_out start steps) k) ≡ sector_bytes
now_whole start steps k lt whole writes =
    (All-get_or IsWhole (carried_out start steps) k [] (omega (arith, lt, length-carried_out start steps))
    (carried_out_whole (length start) start steps whole writes)).size

-- the step that is read is the step of the plan at this place
pub step_read : (planned : List PlannedStep) (place : ℕ) (p : PlannedStep) → place < length planned → p ≡ get_or planned place p → get_or (plan_in planned) place Sync ≡ p.step
step_read planned place p lt is = get_or-map (λ (x : PlannedStep). x.step) planned place p Sync lt ∙ ap (λ (x : PlannedStep). x.step) (sym is)

-- what is found of sector k, if its latest content was written by the step at a place
module _ (start : List Sector) (planned : List PlannedStep) (k : ℕ) (place : ℕ) (lt : k < length start) (whole : All IsWhole start)
    (writes : All (IsWriteOn (length start)) (writes_in (plan_in planned))) (got : Option ℕ)
    (is_latest : content_by start (plan_in planned) k got ≡ sector (carried_out start (plan_in planned)) k) (found : Some place ≡ got) where
  content_is : content_of (get_or (plan_in planned) place Sync) ≡ sector (carried_out start (plan_in planned)) k
  content_is = subst (λ o. content_by start (plan_in planned) k o ≡ sector (carried_out start (plan_in planned)) k) (sym found) is_latest

  pub found_in : place < length planned
  found_in = omega (arith, place_in (plan_in planned) place _ (now_whole start (plan_in planned) k lt whole writes) content_is, length-map planned (λ (x : PlannedStep). x.step))

  pub found_content : (p : PlannedStep) → p ≡ get_or planned place p → content_of p.step ≡ sector (carried_out start (plan_in planned)) k
  found_content p is = ap content_of (sym (step_read planned place p found_in is)) ∙ content_is

  pub found_write : (p : PlannedStep) → p ≡ get_or planned place p → p.step ≡ Sync → ⊥
  found_write p is sync = omega (arith, ap length (sym (ap content_of sync) ∙ found_content p is), now_whole start (plan_in planned) k lt whole writes)
