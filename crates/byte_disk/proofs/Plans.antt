-- For callers: a plan leaves exactly what its disk stated for its moments.
use Rattle.std.proofs.Common.{◌≡◌, ℕ, zero, suc, ◌+◌, ◌-◌, ◌<◌, ◌≤◌, List, [], ◌∷◌, length, take, refl, sym, ◌∙◌, ap, subst, arith}
use Rattle.std.proofs.lemmas.Bool.{lt-ltb, le-ltb}
use Rattle.std.proofs.lemmas.List.{length-map, take_all, ext_get_or}
use Rattle.std.proofs.lemmas.List.Elements.{All-nil, All-weaker}
use Rattle.std.specs.Prelude.{if◌then◌else◌}
use Rattle.sector_disk.specs.CallCount.{calls_made}
use Rattle.sector_disk.specs.Disk.{Sector, sector, MixtureAt, KeepsPast, LeavesOnly}
use Rattle.byte_disk.specs.declared.disk.ByteDisk.{ByteDisk}
use Rattle.byte_disk.specs.declared.planned.PlannedStep.{PlannedStep}
use Rattle.byte_disk.specs.Plan.{SectorWrite, carried_out, writes_in, IsWriteOn, IsWriteStep, MayBeLeft, IsMixtureAfter}
use Rattle.byte_disk.specs.ByteDisk.{plan_of, given_to, calls_for, steps_at, byte_facts, LeavesAsAfter, IsPlanOf}
use Rattle.byte_disk.specs.inside.PlanLaws.{steps_at_end}
use Rattle.byte_disk.proofs.Kept.{steps_at-le}

-- exactly the first n steps are made by the calls for these steps
steps_reached : (planned : List PlannedStep) (n : ℕ) → n ≤ length planned → steps_at planned (calls_for (take n planned)) ≡ n
steps_reached [] n le = omega (arith, le)
steps_reached (p ∷ planned) zero le = ap (λ b. if b then steps_at planned (0 - (calls_made p.idle + 1)) + 1 else 0) (le-ltb (calls_made p.idle) 0 (omega arith))
steps_reached (p ∷ planned) (suc n) le =
    let first = calls_made p.idle in
    let u = first + 1 + calls_for (take n planned) in
    let later : u - (first + 1) ≡ calls_for (take n planned) = omega arith in
    ap (λ b. if b then steps_at planned (u - (first + 1)) + 1 else 0) (lt-ltb first u (omega arith))
    ∙ ap (λ m. m + 1) (ap (steps_at planned) later ∙ steps_reached planned n (omega arith))
    ∙ omega arith

calls_taken : (planned : List PlannedStep) (n : ℕ) → calls_for (take n planned) ≤ calls_for planned
calls_taken planned zero = omega arith
calls_taken [] (suc n) = omega arith
calls_taken (p ∷ planned) (suc n) = omega (arith, calls_taken planned n)

module _ (disk : ByteDisk) where
  -- what is left at a moment is what is left after the steps that are made by that moment
  left_at : (u n : ℕ) → steps_at disk.planned.items u ≡ n → LeavesAsAfter disk u n
  left_at u n made m = (
    λ mixture. record { size = mixture.size; each = λ k lt. subst (λ i. MayBeLeft (given_to disk) (take i (plan_of disk)) k (sector m k)) made (mixture.each k lt) },
    λ mixture. record { size = mixture.size; each = λ k lt. subst (λ i. MayBeLeft (given_to disk) (take i (plan_of disk)) k (sector m k)) (sym made) (mixture.each k lt) },
  )

  pub is_plan : IsPlanOf disk
  is_plan = record {
    prefixes = λ n le.
        let in_planned : n ≤ length disk.planned.items = omega (arith, le, length-map disk.planned.items (λ (p : PlannedStep). p.step)) in
        let u = calls_for (take n disk.planned.items) in
        (u, omega (arith, calls_taken disk.planned.items n), left_at u n (steps_reached disk.planned.items n in_planned));
    moments = λ u le. (
      steps_at disk.planned.items u,
      omega
          (arith, steps_at-le disk.planned.items u, length-map disk.planned.items (λ (p : PlannedStep). p.step)),
      left_at u
          (steps_at disk.planned.items u) refl,
    );
    inside = All-weaker (IsWriteOn (length (given_to disk))) (λ (write : SectorWrite). write.0 < length (given_to disk)) (λ write is. is.inside) (writes_in (plan_of disk)) disk.writes;
  }

  -- before its first call, a stop leaves what the disk was given
  at_first : steps_at disk.planned.items 0 ≡ 0
  at_first = elim disk.planned.items as (λ (planned : List PlannedStep). steps_at planned 0 ≡ 0) [
    | [] ↦ refl
    | p ∷ planned ↦ ap (λ b. if b then steps_at planned (0 - (calls_made p.idle + 1)) + 1 else 0) (le-ltb (calls_made p.idle) 0 (omega arith))
  ]

  given_left : (k : ℕ) → (byte_facts disk).may_leave 0 k (sector (given_to disk) k)
  given_left k = subst (λ n. MayBeLeft (given_to disk) (take n (plan_of disk)) k (sector (given_to disk) k)) (sym at_first) ((0, omega arith, All-nil IsWriteStep, refl))

  left_given : (k : ℕ) (c : Sector) → (byte_facts disk).may_leave 0 k c → c ≡ sector (given_to disk) k
  left_given k c left =
      let here : MayBeLeft (given_to disk) [] k c = subst (λ n. MayBeLeft (given_to disk) (take n (plan_of disk)) k c) at_first left in
      here.3 ∙ ap (λ steps. sector (carried_out (given_to disk) steps) k) (take_all here.0 [] (omega arith))

-- The given sectors stay the same, whatever calls are made.
pub same_given : (old new : ByteDisk) → KeepsPast (byte_facts old) (byte_facts new) → given_to new ≡ given_to old
same_given old new keeps = ext_get_or [] (given_to new) (given_to old) keeps.sectors (λ k lt.
    left_given old k (sector (given_to new) k) ((keeps.past 0 k (sector (given_to new) k) (omega arith)).0 (given_left new k)))

-- Whatever holds of all that a stop may leave since a disk was made, holds of each mixture after each prefix of its plan.
pub plan_leaves : (old new : ByteDisk) (P : List Sector → Type 0) → (byte_facts old).time ≡ 0 → LeavesOnly (byte_facts old) (byte_facts new) P
    → (n : ℕ) → n ≤ length (plan_of new) → (m : List Sector) → IsMixtureAfter (given_to old) (take n (plan_of new)) m → P m
plan_leaves old new P fresh leaves n le m mixture =
    let reached = (is_plan new).prefixes n le in
    leaves.each m (reached.0, omega (arith, fresh), reached.1, (reached.2 m).1 (subst (λ start. IsMixtureAfter start (take n (plan_of new)) m) (sym (same_given old new leaves.past)) mixture))

-- Whatever holds of all that a stop now may leave, holds of each mixture after the whole plan.
pub plan_ends : (old new : ByteDisk) (P : List Sector → Type 0) → KeepsPast (byte_facts old) (byte_facts new)
    → ((m : List Sector) → MixtureAt (byte_facts new) (byte_facts new).time m → P m) → (m : List Sector)
    → IsMixtureAfter (given_to old) (plan_of new) m → P m
plan_ends old new P keeps found m mixture = found m ((left_at new (byte_facts new).time (length new.planned.items) (steps_at_end new.planned.items (calls_made new.idle)) m).1
    (subst (λ start. IsMixtureAfter start (take (length new.planned.items) (plan_of new)) m) (sym (same_given old new keeps))
    (subst (λ steps. IsMixtureAfter (given_to old) steps m)
    (sym (take_all (length new.planned.items) (plan_of new)
    (omega (arith, length-map new.planned.items (λ (p : PlannedStep). p.step))))) mixture)))
