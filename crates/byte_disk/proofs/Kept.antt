-- The effect of a call of a disk over given bytes, on the past and on the contents that a stop may leave.
use Rattle.std.proofs.Common.{◌≡◌, ◌↔◌, ◌⊎◌, inl, inr, ⊎_elim, ℕ, ◌+◌, ◌-◌, ◌<◌, ◌≤◌, List, [], ◌∷◌, ◌++◌, length, map, set, take, drop, All, Result, Ok, Err, refl, sym, ◌∙◌, ap, subst, arith}
use Rattle.std.proofs.lemmas.Bool.{cases_lt, cases_eq, lt-ltb, le-ltb}
use Rattle.std.proofs.lemmas.List.{length-map, length_push, map_push, take_all, take_at, drop_at, take-append-le, drop-append-le, get_or-set_same, get_or-set_other}
use Rattle.std.proofs.lemmas.List.Elements.{All-head, All-push, All-take, All-drop}
use Rattle.std.specs.Prelude.{if◌then◌else◌}
use Rattle.sector_disk.specs.declared.call_count.CallCount.{CallCount}
use Rattle.sector_disk.specs.CallCount.{calls_made, calls_failed}
use Rattle.sector_disk.specs.Disk.{Sector, sector, DiskFacts, MayLeave, KeepsPast, IsUnchanged, GrowsBy, LeavesNoMore, LeavesNowAlone, IsCall, IsWrite, IsSync}
use Rattle.sector_disk.specs.declared.disk.DiskFault.{DiskFault}
use Rattle.sector_disk.specs.declared.disk.DiskFault.TheVariants.{Failed}
use Rattle.byte_disk.specs.declared.planned.PlannedStep.{PlannedStep}
use Rattle.byte_disk.specs.declared.step.Step.{Step}
use Rattle.byte_disk.specs.declared.step.Step.TheVariants.{Write, Sync}
use Rattle.byte_disk.specs.Plan.{carried_out, IsWriteStep, MayBeLeft}
use Rattle.byte_disk.specs.ByteDisk.{calls_for, failures_for, steps_at, facts_of, logged}
use Rattle.byte_disk.specs.inside.Latest.{plan_in}
use Rattle.byte_disk.specs.inside.PlanLaws.{length-carried_out, now_left, plan_now}

pub carried_out-append : (start : List Sector) (xs ys : List Step) → carried_out start (xs ++ ys) ≡ carried_out (carried_out start xs) ys
carried_out-append start [] ys = refl
carried_out-append start (Write at content ∷ xs) ys = carried_out-append (set start at content) xs ys
carried_out-append start (Sync ∷ xs) ys = carried_out-append start xs ys

-- one more step adds one call, and those since the step before it, to the number of calls
pub calls_for-push : (planned : List PlannedStep) (p : PlannedStep) → calls_for (planned ++ p ∷ []) ≡ calls_for planned + calls_made p.idle + 1
calls_for-push [] p = omega arith
calls_for-push (x ∷ planned) p = omega (arith, calls_for-push planned p)

pub failures_for-push : (planned : List PlannedStep) (p : PlannedStep) → failures_for (planned ++ p ∷ []) ≡ failures_for planned + calls_failed p.idle
failures_for-push [] p = omega arith
failures_for-push (x ∷ planned) p = omega (arith, failures_for-push planned p)

pub steps_at-le : (planned : List PlannedStep) (u : ℕ) → steps_at planned u ≤ length planned
steps_at-le [] u = omega arith
steps_at-le (x ∷ planned) u = ⊎_elim
    (λ lt. let is : steps_at (x ∷ planned) u ≡ steps_at planned (u - (calls_made x.idle + 1)) + 1 =
    ap (λ b. if b then steps_at planned (u - (calls_made x.idle + 1)) + 1 else 0) (lt-ltb (calls_made x.idle) u lt) in
    omega (arith, is, steps_at-le planned (u - (calls_made x.idle + 1))))
    (λ ge. let is : steps_at (x ∷ planned) u ≡ 0 = ap (λ b. if b then steps_at planned (u - (calls_made x.idle + 1)) + 1 else 0) (le-ltb (calls_made x.idle) u ge) in omega (arith, is))
    (cases_lt (calls_made x.idle) u)

-- one more step isn't made at a moment before it
pub steps_at-push : (planned : List PlannedStep) (p : PlannedStep) (u : ℕ) → u ≤ calls_for planned + calls_made p.idle → steps_at (planned ++ p ∷ []) u ≡ steps_at planned u
steps_at-push [] p u le = ap (λ b. if b then 0 + 1 else 0) (le-ltb (calls_made p.idle) u (omega (arith, le)))
steps_at-push (x ∷ planned) p u le = ⊎_elim
    (λ lt.
    let rest = u - (calls_made x.idle + 1) in
    ap (λ b. if b then steps_at (planned ++ p ∷ []) rest + 1 else 0) (lt-ltb (calls_made x.idle) u lt)
    ∙ ap (λ m. m + 1) (steps_at-push planned p rest (omega arith))
    ∙ sym (ap (λ b. if b then steps_at planned rest + 1 else 0) (lt-ltb (calls_made x.idle) u lt)))
    (λ ge.
    let rest = u - (calls_made x.idle + 1) in
    ap (λ b. if b then steps_at (planned ++ p ∷ []) rest + 1 else 0) (le-ltb (calls_made x.idle) u ge)
    ∙ sym (ap (λ b. if b then steps_at planned rest + 1 else 0) (le-ltb (calls_made x.idle) u ge)))
    (cases_lt (calls_made x.idle) u)

-- a step that is added at the end comes last in the plan
pub plan_push : (planned : List PlannedStep) (p : PlannedStep) → plan_in (planned ++ p ∷ []) ≡ plan_in planned ++ p.step ∷ []
plan_push planned p = map_push (λ (x : PlannedStep). x.step) planned p

-- a step that is added at the end comes last in the log
longer_log : (planned planned' : List PlannedStep) (p : PlannedStep) → planned' ≡ planned ++ p ∷ [] → map logged (plan_in planned') ≡ map logged (plan_in planned) ++ logged p.step ∷ []
longer_log planned planned' p items = ap (λ l. map logged (plan_in l)) items ∙ ap (map logged) (plan_push planned p) ∙ map_push logged (plan_in planned) p.step

-- what a stop now may leave, stated only in terms of the plan
pub present : (start : List Sector) (planned : List PlannedStep) (idle : CallCount) (k : ℕ) (c : Sector) → MayLeave (facts_of start planned idle) k c ↔ MayBeLeft start (plan_in planned) k c
present start planned idle k c = (
  λ left. subst (λ steps. MayBeLeft start steps k c) (plan_now planned (calls_made idle)) left,
  λ left. subst (λ steps. MayBeLeft start steps k c) (sym (plan_now planned (calls_made idle))) left,
)

-- a call that makes no step
module _ (start : List Sector) (planned : List PlannedStep) (idle idle' : CallCount) where
  pub same : IsUnchanged (facts_of start planned idle) (facts_of start planned idle')
  same = record {
    now = refl;
    log = refl;
    stop = λ k c. (
      λ left. (present start planned idle k c).1 ((present start planned idle' k c).0 left),
      λ left. (present start planned idle' k c).1 ((present start planned idle k c).0 left),
    );
  }

  pub keeps : calls_made idle' ≡ calls_made idle + 1 → KeepsPast (facts_of start planned idle) (facts_of start planned idle')
  keeps made = record { sectors = refl; later = omega (arith, made); marks = λ u le. refl; past = λ u k c le. (λ left. left, λ left. left) }

-- what is left after one more step
module _ (start : List Sector) (steps : List Step) (step : Step) where
  abbrev more : List Step
  more = steps ++ step ∷ []

  -- if only writes come after a place, and the new step after them, the new step is a write too
  before : (i : ℕ) → i ≤ length steps → All IsWriteStep (drop i more) → All IsWriteStep (drop i steps) × IsWriteStep step
  before i le all =
      let rest = drop i steps in
      let split : All IsWriteStep (rest ++ step ∷ []) = subst (All IsWriteStep) (drop-append-le i steps (step ∷ []) le) all in (
        subst (All IsWriteStep) (take_at rest (step ∷ []) (length rest) refl) (All-take IsWriteStep (length rest) (rest ++ step ∷ []) split),
        All-head IsWriteStep step [] (subst (All IsWriteStep) (drop_at rest (step ∷ []) (length rest) refl) (All-drop IsWriteStep (length rest) (rest ++ step ∷ []) split)),
      )

  at_front : (i k : ℕ) → i ≤ length steps → sector (carried_out start (take i more)) k ≡ sector (carried_out start (take i steps)) k
  at_front i k le = ap (λ front. sector (carried_out start front) k) (take-append-le i steps (step ∷ []) le)

  at_end : (i k : ℕ) → length steps < i → sector (carried_out start (take i more)) k ≡ sector (carried_out (carried_out start steps) (step ∷ [])) k
  at_end i k lt =
      ap (λ front. sector (carried_out start front) k) (take_all i more (omega (arith, lt, length_push steps step)))
      ∙ ap (λ l. sector l k) (carried_out-append start steps (step ∷ []))

  -- what may be left after the step: a content that could be left before it, or the present one
  pub left_more : (k : ℕ) (c : Sector) → MayBeLeft start more k c → (MayBeLeft start steps k c × IsWriteStep step) ⊎ (c ≡ sector (carried_out (carried_out start steps) (step ∷ [])) k)
  left_more k c left = ⊎_elim
      (λ lt. inr (left.3 ∙ at_end left.0 k lt))
      (λ le. let was = before left.0 le left.2 in inl ((left.0, le, was.0, left.3 ∙ at_front left.0 k le), was.1))
      (cases_lt (length steps) left.0)

  pub more_left : (k : ℕ) (c : Sector) → IsWriteStep step → MayBeLeft start steps k c → MayBeLeft start more k c
  more_left k c writes left = (
    left.0,
    omega (arith, left.1, length_push steps step),
    subst (All IsWriteStep) (sym (drop-append-le left.0 steps (step ∷ []) left.1)) (All-push IsWriteStep (drop left.0 steps) step left.2 writes),
    left.3 ∙ sym (at_front left.0 k left.1),
  )

  pub more_now : (k : ℕ) → MayBeLeft start more k (sector (carried_out (carried_out start steps) (step ∷ [])) k)
  more_now k = subst (λ l. MayBeLeft start more k (sector l k)) (carried_out-append start steps (step ∷ [])) (now_left start more k)

-- a call that makes a step
module _ (start : List Sector) (planned : List PlannedStep) (idle idle' : CallCount) (p : PlannedStep) (since : calls_made p.idle ≡ calls_made idle) where
  abbrev old : DiskFacts
  old = facts_of start planned idle

  abbrev new : DiskFacts
  new = facts_of start (planned ++ p ∷ []) idle'

  front : (u : ℕ) → u ≤ calls_for planned + calls_made idle → take (steps_at (planned ++ p ∷ []) u) (plan_in (planned ++ p ∷ [])) ≡ take (steps_at planned u) (plan_in planned)
  front u le =
      ap (λ m. take m (plan_in (planned ++ p ∷ []))) (steps_at-push planned p u (omega (arith, le, since)))
      ∙ ap (take (steps_at planned u)) (plan_push planned p)
      ∙ take-append-le (steps_at planned u) (plan_in planned) (p.step ∷ []) (omega (arith, steps_at-le planned u, length-map planned (λ (x : PlannedStep). x.step)))

  pub keeps_more : KeepsPast old new
  keeps_more = record {
    sectors = refl;
    later = omega (arith, calls_for-push planned p, since);
    marks = λ u le. refl;
    past = λ u k c le. (
      λ left. subst (λ steps. MayBeLeft start steps k c) (front u le) left,
      λ left. subst (λ steps. MayBeLeft start steps k c) (sym (front u le)) left,
    );
  }

  now_more : carried_out start (plan_in (planned ++ p ∷ [])) ≡ carried_out (carried_out start (plan_in planned)) (p.step ∷ [])
  now_more = ap (carried_out start) (plan_push planned p) ∙ carried_out-append start (plan_in planned) (p.step ∷ [])

  to_more : (k : ℕ) (c : Sector) → MayLeave new k c → MayBeLeft start (plan_in planned ++ p.step ∷ []) k c
  to_more k c left = subst (λ steps. MayBeLeft start steps k c) (plan_push planned p) ((present start (planned ++ p ∷ []) idle' k c).0 left)

  from_more : (k : ℕ) (c : Sector) → MayBeLeft start (plan_in planned ++ p.step ∷ []) k c → MayLeave new k c
  from_more k c left = (present start (planned ++ p ∷ []) idle' k c).1 (subst (λ steps. MayBeLeft start steps k c) (sym (plan_push planned p)) left)

  module _ (at : ℕ) (content : Sector) (is : p.step ≡ Write at content) where
    written : carried_out (carried_out start (plan_in planned)) (p.step ∷ []) ≡ set (carried_out start (plan_in planned)) at content
    written = ap (λ step. carried_out (carried_out start (plan_in planned)) (step ∷ [])) is

    pub write_now : carried_out start (plan_in (planned ++ p ∷ [])) ≡ set (carried_out start (plan_in planned)) at content
    write_now = now_more ∙ written

    writes : IsWriteStep p.step
    writes = subst IsWriteStep (sym is) tt

    pub grows : at < length start → GrowsBy old new at content
    grows lt = record { each = λ k c. (there k c, back k c) }
      where
        here : sector (set (carried_out start (plan_in planned)) at content) at ≡ content
        here = get_or-set_same (carried_out start (plan_in planned)) at content [] (omega (arith, lt, length-carried_out start (plan_in planned)))

        there : (k : ℕ) (c : Sector) → MayLeave new k c → MayLeave old k c ⊎ (k ≡ at) × (c ≡ content)
        there k c left = ⊎_elim
            (λ was. inl ((present start planned idle k c).1 was.0))
            (λ now. let is_now : c ≡ sector (set (carried_out start (plan_in planned)) at content) k = now ∙ ap (λ l. sector l k) written in ⊎_elim
            (λ same_place. inr (same_place, is_now ∙ ap (λ j. sector (set (carried_out start (plan_in planned)) at content) j) same_place ∙ here))
            (λ other. inl ((present start planned idle k c).1
            (subst (MayBeLeft start (plan_in planned) k)
            (sym (is_now ∙ get_or-set_other (carried_out start (plan_in planned)) at k content [] other)) (now_left start (plan_in planned) k))))
            (cases_eq k at))
            (left_more start (plan_in planned) p.step k c (to_more k c left))

        back : (k : ℕ) (c : Sector) → (MayLeave old k c ⊎ (k ≡ at) × (c ≡ content)) → MayLeave new k c
        back k c either = from_more k c (⊎_elim
            (λ was. more_left start (plan_in planned) p.step k c writes ((present start planned idle k c).0 was))
            (λ this.
            let is_now : sector (carried_out (carried_out start (plan_in planned)) (p.step ∷ [])) k ≡ c = ap (λ l. sector l k) written
            ∙ ap (λ j. sector (set (carried_out start (plan_in planned)) at content) j) this.0 ∙ here ∙ sym this.1 in
            subst (MayBeLeft start (plan_in planned ++ p.step ∷ []) k) is_now (more_now start (plan_in planned) p.step k))
            either)

  module _ (is : p.step ≡ Sync) where
    synced : carried_out (carried_out start (plan_in planned)) (p.step ∷ []) ≡ carried_out start (plan_in planned)
    synced = ap (λ step. carried_out (carried_out start (plan_in planned)) (step ∷ [])) is

    pub sync_now : carried_out start (plan_in (planned ++ p ∷ [])) ≡ carried_out start (plan_in planned)
    sync_now = now_more ∙ synced

    last : (k : ℕ) (c : Sector) → MayLeave new k c → c ≡ sector (carried_out start (plan_in planned)) k
    last k c left = ⊎_elim
        (λ was. absurd (subst IsWriteStep is was.1))
        (λ now. now ∙ ap (λ l. sector l k) synced)
        (left_more start (plan_in planned) p.step k c (to_more k c left))

    pub alone : LeavesNowAlone new
    alone = record {
      each = λ k c lt. (
        λ left. last k c left ∙ ap (λ l. sector l k) (sym sync_now),
        λ same_content. from_more k c (subst (MayBeLeft start (plan_in planned ++ p.step ∷ []) k) (sym (same_content ∙ ap (λ l. sector l k) now_more)) (more_now start (plan_in planned) p.step k)),
      );
    }

    pub no_more : LeavesNoMore old new
    no_more = record { each = λ k c left. (present start planned idle k c).1 (subst (MayBeLeft start (plan_in planned) k) (sym (last k c left)) (now_left start (plan_in planned) k)) }

-- a call that fails makes no step
module _ (start : List Sector) (planned : List PlannedStep) (idle idle' : CallCount) (made : calls_made idle' ≡ calls_made idle + 1) where
  pub failed_sync : IsSync (facts_of start planned idle) (facts_of start planned idle') (let failed : Result Unit DiskFault = Err Failed in failed)
  failed_sync = record {
    past = keeps start planned idle idle' made;
    now = refl;
    log = record { either = inl refl };
    stop = record { each = λ k c. ((same start planned idle idle').stop k c).0 };
    stop_ok = tt;
  }

  pub failed_write : (at : ℕ) (content : Sector) → IsWrite (facts_of start planned idle) (facts_of start planned idle') at content (let failed : Result Unit DiskFault = Err Failed in failed)
  failed_write at content = record {
    past = keeps start planned idle idle' made;
    ok = tt;
    err = inl refl;
    stop = record { each = λ k c left. inl (((same start planned idle idle').stop k c).0 left) };
    stop_ok = tt;
  }

-- a call that succeeds makes a step
module _ (start : List Sector) (planned : List PlannedStep) (idle : CallCount) (planned' : List PlannedStep) (idle' : CallCount) (p : PlannedStep)
    (since : p.idle ≡ idle) (items : planned' ≡ planned ++ p ∷ []) where
  pub made_call : calls_made idle' ≡ 0 → calls_failed idle' ≡ 0 → IsCall (facts_of start planned idle) (facts_of start planned' idle') (let done : Result Unit DiskFault = Ok tt in done)
  made_call none none_failed = record {
    honest = refl;
    sectors = refl;
    plans = refl;
    log = record { more = logged p.step ∷ []; few = omega arith; grown = longer_log planned planned' p items };
    time = omega (arith, ap calls_for items, calls_for-push planned p, ap calls_made since, none);
    ok = omega (arith, ap failures_for items, failures_for-push planned p, ap calls_failed since, none_failed);
    err = tt;
  }

  pub made_sync : p.step ≡ Sync → IsSync (facts_of start planned idle) (facts_of start planned' idle') (let done : Result Unit DiskFault = Ok tt in done)
  made_sync is = subst (λ l. IsSync (facts_of start planned idle) (facts_of start l idle') (let done : Result Unit DiskFault = Ok tt in done)) (sym items) (record {
    past = keeps_more start planned idle idle' p (ap calls_made since);
    now = sync_now start planned idle idle' p (ap calls_made since) is;
    log = record { either = inr (longer_log planned (planned ++ p ∷ []) p refl ∙ ap (λ step. map logged (plan_in planned) ++ logged step ∷ []) is) };
    stop = no_more start planned idle idle' p (ap calls_made since) is;
    stop_ok = alone start planned idle idle' p (ap calls_made since) is;
  })

  pub made_write : (at : ℕ) (content : Sector) → p.step ≡ Write at content → at < length start
      → IsWrite (facts_of start planned idle) (facts_of start planned' idle') at content (let done : Result Unit DiskFault = Ok tt in done)
  made_write at content is lt = subst (λ l. IsWrite (facts_of start planned idle) (facts_of start l idle') at content (let done : Result Unit DiskFault = Ok tt in done)) (sym items) (record {
    past = keeps_more start planned idle idle' p (ap calls_made since);
    ok = write_now start planned idle idle' p (ap calls_made since) at content is;
    err = tt;
    stop = record { each = λ k c. ((grows start planned idle idle' p (ap calls_made since) at content is lt).each k c).0 };
    stop_ok = grows start planned idle idle' p (ap calls_made since) at content is lt;
  })
