-- The bytes of a plan's sync and of the first steps after it.
use Rattle.std.proofs.Common.{◌≡◌, ℕ, ◌+◌, ◌<◌, ◌≤◌, List, ◌∷◌, ◌++◌, map, length, take, get_or, ◌∙◌, sym, ap, arith, length-append, append_assoc}
use Rattle.std.specs.List.{flat_map}
use Rattle.byte_disk.specs.declared.planned.PlannedStep.{PlannedStep}
use Rattle.byte_disk.specs.declared.step.Step.TheVariants.{Sync}
use Rattle.c_answers.specs.Spelling.{step_bytes, plan_bytes}
use Rattle.c_answers.proofs.Rows.{rows_of, rows_more, rows_all, size_within}

-- the bytes of a step as a disk keeps it
abbrev pub row : PlannedStep → List ℕ
row p = step_bytes p.step

-- the bytes of a sync, and of the first `i` steps after it
abbrev pub begun : List PlannedStep → ℕ → List ℕ
begun planned i = step_bytes Sync ++ flat_map row (take i planned)

-- the bytes of a sync and of all steps are the bytes of the plan
pub begun_all : (planned : List PlannedStep) (i : ℕ) → length planned ≤ i → begun planned i ≡ plan_bytes (Sync ∷ map (λ (p : PlannedStep). p.step) planned)
begun_all planned i le = ap (λ l. step_bytes Sync ++ l) (rows_all row planned i le ∙ sym (rows_of step_bytes (λ (p : PlannedStep). p.step) planned))

-- One more step is encoded after the first `i` steps.
module _ (planned : List PlannedStep) (i : ℕ) (p : PlannedStep) (lt : i < length planned) (is : p ≡ get_or planned i p) where
  pub begun_more : begun planned (i + 1) ≡ begun planned i ++ row p
  begun_more =
      ap (λ l. step_bytes Sync ++ l) (rows_more row planned i p lt)
      ∙ sym (append_assoc (step_bytes Sync) (flat_map row (take i planned)) (row (get_or planned i p)))
      ∙ ap (λ x. begun planned i ++ row x) (sym is)

  pub begun_size : length (begun planned (i + 1)) ≡ length (begun planned i) + length (row p)
  begun_size = ap length begun_more ∙ length-append (begun planned i) (row p)

  -- if the buffer has no room for a step, it has no room for the plan
  pub begun_lacks : (room at : ℕ) → at ≡ length (begun planned i) → room < at + length (row p) → room < length (plan_bytes (Sync ∷ map (λ (q : PlannedStep). q.step) planned))
  begun_lacks room at at_is small = omega (
    arith,
    at_is,
    small,
    length-append (step_bytes Sync) (flat_map row (take i planned)),
    length-append (step_bytes Sync) (flat_map row planned),
    ap length (begun_all planned (length planned) (omega arith)),
    ap length (ap (λ l. step_bytes Sync ++ l) (rows_all row planned (length planned) (omega arith))),
    size_within row planned i p lt,
    ap (λ x. length (row x)) is,
  )
