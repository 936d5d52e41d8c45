-- Laws about the contents that a plan leaves, and about the moments at which its steps are made.
use Rattle.std.proofs.Common.{◌≡◌, ℕ, zero, suc, ◌+◌, ◌-◌, ◌<◌, List, [], ◌∷◌}
use Rattle.std.proofs.Common.{length, set, take, refl, sym, ◌∙◌, ap, subst, arith}
use Rattle.std.proofs.lemmas.Bool.{lt-ltb}
use Rattle.std.proofs.lemmas.List.{length-set, length-map, take_all, drop_all}
use Rattle.std.proofs.lemmas.List.Elements.{All-nil, All-cons, All-head, All-tail, All-set, All-get_or}
use Rattle.std.specs.Prelude.{All, if◌then◌else◌}
use Rattle.sector_disk.specs.CallCount.{calls_made}
use Rattle.sector_disk.specs.Disk.{Sector, sector, IsWhole}
use Rattle.byte_disk.specs.declared.planned.PlannedStep.{PlannedStep}
use Rattle.byte_disk.specs.declared.step.Step.{Step}
use Rattle.byte_disk.specs.declared.step.Step.TheVariants.{Write, Sync}
use Rattle.byte_disk.specs.Plan.{SectorWrite, carried_out, writes_in, IsWriteStep, IsWriteOn, MayBeLeft}
use Rattle.byte_disk.specs.ByteDisk.{calls_for, steps_at}
use Rattle.byte_disk.specs.inside.Latest.{plan_in}

pub length-carried_out : (start : List Sector) (steps : List Step) → length (carried_out start steps) ≡ length start
length-carried_out start [] = refl
length-carried_out start (Write at content ∷ steps) = length-carried_out (set start at content) steps ∙ length-set start at content
length-carried_out start (Sync ∷ steps) = length-carried_out start steps

-- whole sectors stay whole when steps are carried out
pub carried_out_whole : (n : ℕ) (start : List Sector) (steps : List Step) → All IsWhole start → All (IsWriteOn n) (writes_in steps)
    → All IsWhole (carried_out start steps)
carried_out_whole n start [] whole writes = whole
carried_out_whole n start (Write at content ∷ steps) whole writes =
    let this : IsWriteOn n (at, content) = All-head (IsWriteOn n) (at, content) (writes_in steps) writes in
    carried_out_whole n (set start at content) steps (All-set IsWhole start at content this.whole whole)
    (All-tail (IsWriteOn n) (at, content) (writes_in steps) writes)
carried_out_whole n start (Sync ∷ steps) whole writes = carried_out_whole n start steps whole writes

-- a property of all writes of a plan is a property of the writes in its first steps
pub writes_taken : (P : SectorWrite → Type 0) (i : ℕ) (steps : List Step) → All P (writes_in steps) → All P (writes_in (take i steps))
writes_taken P zero steps all = All-nil P
writes_taken P (suc i) [] all = All-nil P
writes_taken P (suc i) (Write at content ∷ steps) all =
    All-cons P (at, content) (writes_in (take i steps)) (All-head P (at, content) (writes_in steps) all)
    (writes_taken P i steps (All-tail P (at, content) (writes_in steps) all))
writes_taken P (suc i) (Sync ∷ steps) all = writes_taken P i steps all

-- each content that a stop may leave is whole
pub left_whole : (n : ℕ) (start : List Sector) (steps : List Step) (k : ℕ) (c : Sector)
    → k < length start → All IsWhole start → All (IsWriteOn n) (writes_in steps) → MayBeLeft start steps k c → IsWhole c
left_whole n start steps k c lt whole writes left =
    let front = take left.0 steps in
    subst IsWhole (sym left.3)
    (All-get_or IsWhole (carried_out start front) k [] (omega (arith, lt, length-carried_out start front))
    (carried_out_whole n start front whole (writes_taken (IsWriteOn n) left.0 steps writes)))

-- a stop may leave the content that reads return
pub now_left : (start : List Sector) (steps : List Step) (k : ℕ) → MayBeLeft start steps k (sector (carried_out start steps) k)
now_left start steps k = (
  length steps,
  omega arith,
  subst (All IsWriteStep) (sym (drop_all (length steps) steps (omega arith))) (All-nil IsWriteStep),
  ap (λ front. sector (carried_out start front) k) (sym (take_all (length steps) steps (omega arith))),
)

-- when all calls have been made, all steps have been made
pub steps_at_end : (planned : List PlannedStep) (n : ℕ) → steps_at planned (calls_for planned + n) ≡ length planned
steps_at_end [] n = refl
steps_at_end (p ∷ planned) n =
    let first = calls_made p.idle in
    let u = calls_for (p ∷ planned) + n in
    let later : u - (first + 1) ≡ calls_for planned + n = omega arith in
    ap (λ b. if b then steps_at planned (u - (first + 1)) + 1 else 0) (lt-ltb first u (omega arith))
    ∙ ap (λ m. m + 1) (ap (steps_at planned) later ∙ steps_at_end planned n)
    ∙ omega arith

-- the steps that were made up to the present moment are the whole plan
pub plan_now : (planned : List PlannedStep) (n : ℕ) → take (steps_at planned (calls_for planned + n)) (plan_in planned) ≡ plan_in planned
plan_now planned n =
    ap (λ m. take m (plan_in planned)) (steps_at_end planned n)
    ∙ take_all (length planned) (plan_in planned) (omega (arith, length-map planned (λ (p : PlannedStep). p.step)))
