-- Lemmas about the state after the acknowledged commands, and about lists that grow by one item.
use Rattle.std.proofs.Common.{◌≡◌, ◌⊎◌, inl, inr, ⊎_elim, ◌<◌, ◌≤◌, ℕ, Bool, suc, zero, true, false, cond, List, [], ◌∷◌, ◌++◌, length, take, Some, IsFalse, refl, sym, ap, subst, ◌∙◌, arith}
use Rattle.std.specs.Prelude.{slice_get}
use Rattle.std.proofs.lemmas.Bool.{false≢true}
use Rattle.std.proofs.lemmas.List.{take-append-le, take_all, length-append}
use Rattle.std.proofs.lemmas.List.Sums.{fold-append}
use Rattle.std.proofs.lemmas.Option.{none-some, same_Some}
use Rattle.sector_disk.specs.Disk.{DiskFacts}
use Rattle.states.specs.State.{State}
use Rattle.requests.specs.Request.{Request, install, replace, remove, set_preloads, bind, list}
use Rattle.requests.specs.Phase.{Phase}
use Rattle.requests.specs.Runs.{last_of, after}
use Rattle.requests.specs.Step.{Step, accepted, is_acknowledged, LeavesFailed}
use Rattle.requests.specs.declared.refusal.Refusal.TheVariants as refusal
use Rattle.requests.specs.declared.reply.Reply.{Reply}
use Rattle.requests.specs.declared.reply.Reply.TheVariants.{Done, Refused}
use Rattle.requests.specs.declared.reply.Reply.TheVariants as reply
use Rattle.requests.proofs.Runs.{last_more}
use Rattle.registry.specs.Acknowledged.{Transaction, command, update, Exchange, answered, given_up, stepped, acknowledged, outcome, state_after, FailedAt}
use Rattle.registry.specs.Ran.{Point, disk_at, Goes, Moves, LeadsThrough}
use Rattle.registry.specs.Updating.{updated}
use Rattle.registry.specs.Phase.{phase_of}

-- item number k of a list stays item number k when one item is appended
pub get_before : {X : Type 0} (xs : List X) (y : X) (k : ℕ) → k < length xs → slice_get (xs ++ y ∷ []) k ≡ slice_get xs k
get_before [] y k lt = absurd (omega (arith, lt))
get_before (x ∷ xs) y zero lt = refl
get_before (x ∷ xs) y (suc k) lt = get_before xs y k (omega (arith, lt))

-- the last item of a list to which an item was appended is that item
pub get_last : {X : Type 0} (xs : List X) (y : X) → slice_get (xs ++ y ∷ []) (length xs) ≡ Some y
get_last [] y = refl
get_last (x ∷ xs) y = get_last xs y

-- an item that a list has after its old items, when one item was appended, is the appended item
pub get_more : {X : Type 0} (xs : List X) (y z : X) (k : ℕ) → length xs ≤ k → slice_get (xs ++ y ∷ []) k ≡ Some z → y ≡ z
get_more [] y z zero le is = same_Some y z is
get_more [] y z (suc k) le is = absurd (none-some z is)
get_more (x ∷ xs) y z zero le is = absurd (omega (arith, le))
get_more (x ∷ xs) y z (suc k) le is = get_more xs y z k (omega (arith, le)) is

-- item number k of a list is also item number k of the list's first k + 1 items
pub get_take : {X : Type 0} (xs : List X) (k : ℕ) → slice_get (take (suc k) xs) k ≡ slice_get xs k
get_take [] k = refl
get_take (x ∷ xs) zero = refl
get_take (x ∷ xs) (suc k) = get_take xs k

-- an exchange that was answered with S1 isn't among the acknowledged ones
pub cut_unacknowledged : (xs : List Exchange) (k : ℕ) (q : Transaction) → FailedAt xs k q → acknowledged (take (suc k) xs) ≡ acknowledged (take k xs)
cut_unacknowledged [] k q cut = absurd (none-some (answered q (Refused refusal.Device)) cut)
cut_unacknowledged (x ∷ xs) zero q cut = subst (λ y. acknowledged (y ∷ []) ≡ []) (sym (same_Some x (answered q (Refused refusal.Device)) cut)) refl
cut_unacknowledged (answered asked answer ∷ xs) (suc k) q cut = ap (λ l. cond (is_acknowledged answer) (asked ∷ l) l) (cut_unacknowledged xs k q cut)
cut_unacknowledged (given_up ∷ xs) (suc k) q cut = cut_unacknowledged xs k q cut
cut_unacknowledged (stepped ∷ xs) (suc k) q cut = cut_unacknowledged xs k q cut

-- the points after the earlier steps stay the same when one step is added
pub after_before : {S : Type 0} (s : S) (ts : List S) (u : S) (k : ℕ) → k ≤ length ts → after s (ts ++ u ∷ []) k ≡ after s ts k
after_before s ts u k le = ap (last_of s) (take-append-le k ts (u ∷ []) le)

-- the point after the added step is the new one
pub after_last : {S : Type 0} (s : S) (ts : List S) (u : S) (k : ℕ) → length ts < k → after s (ts ++ u ∷ []) k ≡ u
after_last s ts u k lt = ap (last_of s) (take_all k (ts ++ u ∷ []) (omega (arith, lt, length-append ts (u ∷ [])))) ∙ last_more s u ts

-- the point after all steps is the last one
pub after_all_steps : {S : Type 0} (s : S) (ts : List S) (k : ℕ) → length ts ≤ k → after s ts k ≡ last_of s ts
after_all_steps s ts k le = ap (last_of s) (take_all k ts le)

-- if a call failed, the state is unchanged, provided that the registry is usable or that the state is
-- taken to be the one before
device_state : (p : Phase) (q : Request) (p' : Phase) → LeavesFailed p q p' → IsFalse p'.failed ⊎ (p'.state ≡ p.state) → p'.state ≡ p.state
device_state p (bind program base) p' leaves kept = leaves.same.state
device_state p list p' leaves kept = absurd leaves
device_state p (install bytes) p' leaves kept = ⊎_elim (λ usable. absurd (false≢true (sym usable ∙ leaves.failed))) (λ same. same) kept
device_state p (replace bytes) p' leaves kept = ⊎_elim (λ usable. absurd (false≢true (sym usable ∙ leaves.failed))) (λ same. same) kept
device_state p (remove name) p' leaves kept = ⊎_elim (λ usable. absurd (false≢true (sym usable ∙ leaves.failed))) (λ same. same) kept
device_state p (set_preloads names) p' leaves kept = ⊎_elim (λ usable. absurd (false≢true (sym usable ∙ leaves.failed))) (λ same. same) kept

-- An acknowledged command changes the state to the one after its acceptance, and no other command
-- changes the state.
pub step_state : (p : Phase) (q : Request) (r : Reply) (p' : Phase) → Step p q r p' → IsFalse p'.failed ⊎ (p'.state ≡ p.state) → p'.state ≡ cond (is_acknowledged r) (accepted p.state q) p.state
step_state p q (Refused refusal.Device) p' h kept = device_state p q p' h.1 kept
step_state p q (Refused refusal.Reopen) p' h kept = h.1.state
step_state p q (Refused refusal.OutOfMemory) p' h kept = h.2.state
step_state p q (Refused r) p' h kept = h.2.state
step_state p q Done p' h kept = h.3.state
step_state p (bind program base) (reply.Bound i) p' h kept = h.3.state
step_state p list (reply.Listing l) p' h kept = h.3.state
step_state p (install bytes) (reply.Listing l) p' h kept = absurd (let no : reply.Listing l ≡ Done = h.2 in cc)
step_state p (replace bytes) (reply.Listing l) p' h kept = absurd (let no : reply.Listing l ≡ Done = h.2 in cc)
step_state p (remove name) (reply.Listing l) p' h kept = absurd (let no : reply.Listing l ≡ Done = h.2 in cc)
step_state p (set_preloads names) (reply.Listing l) p' h kept = absurd (let no : reply.Listing l ≡ Done = h.2 in cc)
step_state p (bind program base) (reply.Listing l) p' h kept = h.3.state
step_state p (install bytes) (reply.Bound i) p' h kept = absurd (let no : reply.Bound i ≡ Done = h.2 in cc)
step_state p (replace bytes) (reply.Bound i) p' h kept = absurd (let no : reply.Bound i ≡ Done = h.2 in cc)
step_state p (remove name) (reply.Bound i) p' h kept = absurd (let no : reply.Bound i ≡ Done = h.2 in cc)
step_state p (set_preloads names) (reply.Bound i) p' h kept = absurd (let no : reply.Bound i ≡ Done = h.2 in cc)
step_state p list (reply.Bound i) p' h kept = h.3.state

module _ {D : Type 0} (facts : D → DiskFacts) where
  goes_state : (p : Point D) (q : Request) (r : Reply) (p' : Point D) → Goes facts p q r p' → p'.state ≡ cond (is_acknowledged r) (accepted p.state q) p.state
  goes_state p q r p' goes = ⊎_elim
      (λ applied. step_state (phase_of facts p.registry p.state) q r (phase_of facts p'.registry p'.state) applied.applied.step
      (⊎_elim (λ at. inl at.stored.usable) (λ failed. inr failed.1) applied.applied.kept))
      (λ nothing. subst (λ y. p'.state ≡ cond (is_acknowledged y) (accepted p.state q) p.state) (sym (goes.did.reopen.1 nothing.0)) (ap (λ (x : Point D). x.state) nothing.1))
      goes.applied

  -- an acknowledged exchange changes the state to its outcome, and no other exchange changes the state
  by_answer : (p : Point D) (asked : Transaction) (acknowledges : Bool) (t : State) → t ≡ cond acknowledges (outcome p.state asked) p.state
      → t ≡ state_after p.state (cond acknowledges (asked ∷ []) [])
  by_answer p asked true t same = same
  by_answer p asked false t same = same

  moves_state : (p : Point D) (x : Exchange) (p' : Point D) → Moves facts p x p' → p'.state ≡ state_after p.state (acknowledged (x ∷ []))
  moves_state p (answered (command q) answer) p' goes = by_answer p (command q) (is_acknowledged answer) p'.state (goes_state p q answer p' goes)
  moves_state p (answered (update qs) answer) p' updates = by_answer p (update qs) (is_acknowledged answer) p'.state (⊎_elim
      (λ at. ⊎_elim
      (λ done. subst (λ (r : Reply). p'.state ≡ cond (is_acknowledged r) (updated p.state qs) p.state) (sym done.0) done.1)
      (λ failed. subst (λ (r : Reply). p'.state ≡ cond (is_acknowledged r) (updated p.state qs) p.state) (sym failed.0) failed.1)
      at.ends)
      (λ nothing. subst (λ (r : Reply). p'.state ≡ cond (is_acknowledged r) (updated p.state qs) p.state) (sym nothing.1) (ap (λ (x : Point D). x.state) nothing.2))
      updates)
  moves_state p given_up p' gives_up = gives_up.same
  moves_state p stepped p' idles = idles.same

  acknowledged_more : (x : Exchange) (xs : List Exchange) → acknowledged (x ∷ xs) ≡ acknowledged (x ∷ []) ++ acknowledged xs
  acknowledged_more (answered asked answer) xs = by (is_acknowledged answer)
    where
      by : (b : Bool) → cond b (asked ∷ acknowledged xs) (acknowledged xs) ≡ cond b (asked ∷ []) [] ++ acknowledged xs
      by true = refl
      by false = refl
  acknowledged_more given_up xs = refl
  acknowledged_more stepped xs = refl

  -- the state after the first k exchanges is the state after the acknowledged exchanges among them
  pub states_after : (k : ℕ) (p : Point D) (xs : List Exchange) (ts : List (Point D)) → LeadsThrough facts p xs ts → (after p ts k).state ≡ state_after p.state (acknowledged (take k xs))
  states_after zero p xs ts h = refl
  states_after (suc k) p [] [] h = refl
  states_after (suc k) p (x ∷ xs) (t ∷ ts) h =
      let first : List Transaction = acknowledged (x ∷ []) in
      states_after k t xs ts h.1
      ∙ ap (λ s. state_after s (acknowledged (take k xs))) (moves_state p x t h.0)
      ∙ sym (fold-append outcome p.state first (acknowledged (take k xs)))
      ∙ ap (state_after p.state) (sym (acknowledged_more x (take k xs)))
  states_after (suc k) p [] (t ∷ ts) h = absurd h
  states_after (suc k) p (x ∷ xs) [] h = absurd h

  -- no exchange sets the disk's time back
  moves_time : (p : Point D) (x : Exchange) (p' : Point D) → Moves facts p x p' → (disk_at facts p).time ≤ (disk_at facts p').time
  moves_time p (answered (command q) answer) p' goes = goes.did.calls.later
  moves_time p (answered (update qs) answer) p' updates = ⊎_elim
      (λ at. at.any_moment.past.later)
      (λ nothing. subst (λ (y : Point D). (disk_at facts p).time ≤ (disk_at facts y).time) (sym nothing.2) (omega arith))
      updates
  moves_time p given_up p' gives_up = gives_up.any_moment.past.later
  moves_time p stepped p' idles = ⊎_elim
      (λ stays. stays.any_moment.past.later)
      (λ failed. subst (λ (d : D). (disk_at facts p).time ≤ (facts d).time) (sym failed.2) (omega arith))
      idles.stays

  time_last : (p : Point D) (xs : List Exchange) (ts : List (Point D)) → LeadsThrough facts p xs ts → (disk_at facts p).time ≤ (disk_at facts (last_of p ts)).time
  time_last p [] [] h = omega arith
  time_last p (x ∷ xs) (t ∷ ts) h = omega (arith, moves_time p x t h.0, time_last t xs ts h.1)
  time_last p [] (t ∷ ts) h = absurd h
  time_last p (x ∷ xs) [] h = absurd h

  pub time_after : (i : ℕ) (p : Point D) (xs : List Exchange) (ts : List (Point D)) → LeadsThrough facts p xs ts → (disk_at facts (after p ts i)).time ≤ (disk_at facts (last_of p ts)).time
  time_after zero p xs ts h = time_last p xs ts h
  time_after (suc i) p [] [] h = omega arith
  time_after (suc i) p (x ∷ xs) (t ∷ ts) h = time_after i t xs ts h.1
  time_after (suc i) p [] (t ∷ ts) h = absurd h
  time_after (suc i) p (x ∷ xs) [] h = absurd h

  -- there are as many points as exchanges
  pub leads_length : (p : Point D) (xs : List Exchange) (ts : List (Point D)) → LeadsThrough facts p xs ts → length ts ≡ length xs
  leads_length p [] [] h = refl
  leads_length p (x ∷ xs) (t ∷ ts) h = ap suc (leads_length t xs ts h.1)
  leads_length p [] (t ∷ ts) h = absurd h
  leads_length p (x ∷ xs) [] h = absurd h

  -- if exchanges led through points, and one more exchange was made at the last point, the longer list
  -- of exchanges led through the longer list of points
  pub leads_more : (p u : Point D) (x : Exchange) (xs : List Exchange) (ts : List (Point D)) → LeadsThrough facts p xs ts
      → Moves facts (last_of p ts) x u → LeadsThrough facts p (xs ++ x ∷ []) (ts ++ u ∷ [])
  leads_more p u x [] [] h moves = (moves, tt)
  leads_more p u x (y ∷ xs) (t ∷ ts) h moves = (h.0, leads_more t u x xs ts h.1 moves)
  leads_more p u x [] (t ∷ ts) h moves = absurd h
  leads_more p u x (y ∷ xs) [] h moves = absurd h

  -- if exchanges led through points, and more exchanges led on from the last point, both lists together
  -- led through all points
  pub leads_on : (p : Point D) (xs : List Exchange) (ts : List (Point D)) (ys : List Exchange) (us : List (Point D)) → LeadsThrough facts p xs ts → LeadsThrough facts (last_of p ts) ys us
      → LeadsThrough facts p (xs ++ ys) (ts ++ us)
  leads_on p [] [] ys us h rest = rest
  leads_on p (x ∷ xs) (t ∷ ts) ys us h rest = (h.0, leads_on t xs ts ys us h.1 rest)
  leads_on p [] (t ∷ ts) ys us h rest = absurd h
  leads_on p (x ∷ xs) [] ys us h rest = absurd h
