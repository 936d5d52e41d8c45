-- Lemmas about runs of commands over a disk.
use Rattle.std.proofs.Common.{◌≡◌, ◌⊎◌, inl, inr, ⊎_elim, ℕ, suc, ◌+◌, ◌<◌, ◌≤◌, List, [], ◌∷◌, ◌++◌, append-nil, append_assoc, length, take, map, Some, IsTrue, refl, sym, ap, subst, ◌∙◌, arith}
use Rattle.std.proofs.lemmas.Bool.{cases_lt}
use Rattle.std.proofs.lemmas.List.{length-append, map-append, take_all}
use Rattle.std.proofs.lemmas.List.Sums.{fold-append}
use Rattle.std.proofs.lemmas.Option.{slice_get_within}
use Rattle.sector_disk.specs.Disk.{Sector, DiskFacts, MixtureAt, Mixture, KeepsPast, LeavesOnly, AreCallsExactly}
use Rattle.sector_disk.proofs.Moments.{keeps_past, past_mixture, left_now, weaken}
use Rattle.store.specs.Opened.{Opened}
use Rattle.states.specs.State.{State}
use Rattle.requests.specs.Request.{Request, install, replace, remove, set_preloads, bind, list}
use Rattle.requests.specs.Phase.{Phase}
use Rattle.requests.specs.Runs.{after, last_of}
use Rattle.requests.specs.Step.{Step, accepted, LeavesFailed}
use Rattle.requests.specs.declared.refusal.Refusal.TheVariants.{Device, Reopen}
use Rattle.requests.specs.declared.reply.Reply.{Reply}
use Rattle.requests.specs.declared.reply.Reply.TheVariants.{Done, Refused}
use Rattle.requests.proofs.Runs.{last_more}
use Rattle.registry.specs.Acknowledged.{Transaction, command, update, Exchange, answered, given_up, stepped, commanded, acknowledged, outcome, state_after, FailedAt, IsAcknowledgedAt}
use Rattle.registry.specs.Stands.{Stands}
use Rattle.registry.specs.Opened.{IsAt}
use Rattle.registry.specs.Phase.{phase_of}
use Rattle.registry.specs.Answered.{Did}
use Rattle.registry.specs.Applied.{Applied, Applies, MayLeaveWithin, InFlight}
use Rattle.registry.specs.Calls.{IfAccepted, calls_of}
use Rattle.registry.specs.Ran.{Point, point, disk_at, AppliesAt, IdlesAt, UpdatesAt, GivesUp, Moves, LeadsThrough, HoldsAcknowledged, HasBegun, LeavesAccepted, Ran, RunsThrough, FindsAccepted}
use Rattle.registry.specs.Updating.{updated}
use Rattle.registry.proofs.RanSoFar.{LeavesPrefix, RanSoFar, RunsVia, Turns}
use Rattle.registry.proofs.Acknowledging.{get_before, get_last, get_more, after_before, after_last, after_all_steps, leads_length, leads_more, leads_on, states_after, time_after, get_take, cut_unacknowledged}
use Rattle.registry.proofs.States.{mixture_stands}

-- the last item of two joined lists is the last item of the second list, or of the first if the second
-- is empty
last_joined : {S : Type 0} (s : S) (ts us : List S) → last_of s (ts ++ us) ≡ last_of (last_of s ts) us
last_joined s [] us = refl
last_joined s (t ∷ ts) us = last_joined t ts us

-- neither a step of a binder nor an update that is given up is an acknowledged exchange
stepped_unanswered : {P : Type 0} (q : Transaction) → stepped ≡ answered q Done → P
stepped_unanswered q is = absurd (cc is)

given_up_unanswered : {P : Type 0} (q : Transaction) → given_up ≡ answered q Done → P
given_up_unanswered q is = absurd (cc is)

-- if a failing call cut a change off and the change took effect, the registry is unusable; after a
-- failed read the state is the one before
broke : (p : Phase) (q : Request) (p' : Phase) (m : List Sector) → LeavesFailed p q p' → Stands m (accepted p.state q) → IsTrue p'.failed ⊎ Stands m p.state
broke p (bind program base) p' m leaves stands = inr stands
broke p list p' m leaves stands = absurd leaves
broke p (install bytes) p' m leaves stands = inl leaves.failed
broke p (replace bytes) p' m leaves stands = inl leaves.failed
broke p (remove name) p' m leaves stands = inl leaves.failed
broke p (set_preloads names) p' m leaves stands = inl leaves.failed

module _ {D : Type 0} (facts : D → DiskFacts) where
  -- if a command that was cut off took effect, the registry is unusable, or the sectors hold the state
  -- before
  flight_broke : (old new : Opened D) (s s' : State) (q : Request) (r : Reply) (m : List Sector) → Applied facts old new s s' q r
      → InFlight (phase_of facts old s) q r m → IsTrue new.failed ⊎ Stands m s
  flight_broke old new s s' q r m applied flight =
      broke (phase_of facts old s) q (phase_of facts new s') m (subst (λ y. Step (phase_of facts old s) q y (phase_of facts new s')) flight.0 applied.step).1 flight.2

  -- an applied command is an exchange of a run
  command_turns : (old new : Opened D) (s s' : State) (q : Request) (r : Reply) → Did facts old new q r → AppliesAt facts (point old s) q r (point new s')
      → Turns facts old s (command q) r (point new s')
  command_turns old new s s' q r did applies = record {
    moves = record { did = did; applied = inl applies };
    any_moment = weaken (MayLeaveWithin (phase_of facts old s) q r s') _
        (λ m may. ⊎_elim inl (λ others. ⊎_elim (λ stands. inr (inl stands))
        (λ flight. ⊎_elim (λ failed. inr (inr (flight.0, failed, flight.2))) inl (flight_broke old new s s' q r m applies.applied flight)) others) may)
        applies.applied.any_moment;
    kept = applies.applied.kept;
  }

  -- an applied update is an exchange of a run
  update_turns : (old : Opened D) (u : Point D) (s : State) (qs : List Request) (r : Reply) → UpdatesAt facts (point old s) qs r u → Turns facts old s (update qs) r u
  update_turns old u s qs r at = record {
    moves = inl at;
    any_moment = ⊎_elim
        (λ done. weaken (λ m. Stands m s ⊎ Stands m (updated s qs)) _
        (λ m may. ⊎_elim inl (λ all. inr (inl (subst (Stands m) (sym done.1) all))) may) at.any_moment)
        (λ failed. weaken (λ m. Stands m s ⊎ Stands m (updated s qs)) _
        (λ m may. ⊎_elim inl (λ all. inr (inr (failed.0, failed.2, all))) may) at.any_moment)
        at.ends;
    kept = ⊎_elim (λ done. inl done.2) (λ failed. inr (failed.2, failed.1)) at.ends;
  }

  -- a mixture after an exchange holds the state after it, or the state after the change that made the
  -- registry unusable
  found_after : (old : Opened D) (u : Point D) (s : State) (q : Transaction) (r : Reply) (m : List Sector) → Turns facts old s q r u → Mixture (disk_at facts u) m
      → Stands m u.state ⊎ (IsTrue u.registry.failed × (r ≡ Refused Device) × Stands m (outcome s q) × (u.state ≡ s))
  found_after old u s q r m turns mixture = ⊎_elim
      (λ at. inl (mixture_stands facts u.registry u.state at m mixture))
      (λ failed. ⊎_elim
      (λ before. inl (subst (Stands m) (sym failed.1) before))
      (λ others. ⊎_elim inl (λ flight. inr (failed.0, flight.0, flight.2, failed.1)) others)
      (left_now _ turns.any_moment m mixture))
      turns.kept

  module _ (start : Point D) (mid : Opened D) (s : State) (xs : List Exchange) (ts : List (Point D)) (so_far : RanSoFar facts start xs ts (point mid s)) where
    lengths : length ts ≡ length xs
    lengths = leads_length facts start xs ts so_far.steps

    module _ (x : Exchange) (u : Point D) where
      abbrev xs' : List Exchange
      xs' = xs ++ x ∷ []

      abbrev ts' : List (Point D)
      ts' = ts ++ u ∷ []

      -- if the new exchange is acknowledged, it ends after this moment
      abbrev EndsLater : ℕ → Type 0
      EndsLater moment = (q : Transaction) → x ≡ answered q Done → moment < (disk_at facts u).time

      longer : length xs' ≡ length xs + 1
      longer = length-append xs (x ∷ [])

      before_is : (k : ℕ) → k ≤ length xs → after start ts' k ≡ after start ts k
      before_is k le = after_before start ts u k (omega (arith, le, lengths))

      mid_is : after start ts' (length xs) ≡ point mid s
      mid_is = before_is (length xs) (omega arith) ∙ after_all_steps start ts (length xs) (omega (arith, lengths)) ∙ sym so_far.last

      u_is : after start ts' (length xs + 1) ≡ u
      u_is = after_last start ts u (length xs + 1) (omega (arith, lengths))

      cut_before : (k : ℕ) (q : Transaction) → FailedAt xs k q → FailedAt xs' k q
      cut_before k q cut = get_before xs x k (slice_get_within xs k (answered q (Refused Device)) cut) ∙ cut

      -- a prefix that contains all acknowledged exchanges still does if the new exchange isn't
      -- acknowledged yet
      holds_before : (k moment : ℕ) → EndsLater moment → HoldsAcknowledged facts start xs ts k moment → HoldsAcknowledged facts start xs' ts' k moment
      holds_before k moment later holds i le is = ⊎_elim
          (λ lt.
          let done : IsAcknowledgedAt xs i = (is.0, sym (get_before xs x i lt) ∙ is.1) in
          subst (λ (y : Point D). moment < (disk_at facts y).time) (sym (before_is (i + 1) (omega (arith, lt)))) (holds i le done))
          (λ ge.
          let done : x ≡ answered is.0 Done = get_more xs x (answered is.0 Done) i ge is.1 in
          subst (λ (y : Point D). moment < (disk_at facts y).time) (sym (after_last start ts u (i + 1) (omega (arith, ge, lengths)))) (later is.0 done))
          (cases_lt i (length xs))

      -- if the new exchange isn't acknowledged by this moment, the earlier exchanges contain all that
      -- were
      holds_rest : (moment : ℕ) → EndsLater moment → HoldsAcknowledged facts start xs' ts' (length xs) moment
      holds_rest moment later i le is =
          subst (λ (y : Point D). moment < (disk_at facts y).time) (sym (after_last start ts u (i + 1) (omega (arith, le, lengths)))) (later is.0 (get_more xs x (answered is.0 Done) i le is.1))

      -- adding the new exchange doesn't change which exchanges had begun by a moment
      begun_before : (k moment : ℕ) → k ≤ length xs → HasBegun facts start xs ts k moment → HasBegun facts start xs' ts' k moment
      begun_before k moment le begun i is = subst (λ (y : Point D). (disk_at facts y).time ≤ moment) (sym (before_is i (omega (arith, le, is)))) (begun i is)

      -- if the moment isn't before the end of the earlier exchanges, all of them have begun by then
      begun_rest : (moment : ℕ) → (facts mid.disk).time ≤ moment → HasBegun facts start xs' ts' (length xs) moment
      begun_rest moment since i is =
          let ended : (disk_at facts (after start ts i)).time ≤ (facts mid.disk).time =
          subst (λ (y : Point D). (disk_at facts (after start ts i)).time ≤ (disk_at facts y).time) (sym so_far.last)
          (time_after facts i start xs ts so_far.steps) in
          let le : (disk_at facts (after start ts i)).time ≤ moment = omega (arith, ended, since) in
          subst (λ (y : Point D). (disk_at facts y).time ≤ moment) (sym (before_is i (omega (arith, is)))) le

      -- if the moment isn't before the end of the earlier exchanges, the new one has begun by then
      begun_new : (moment : ℕ) → (facts mid.disk).time ≤ moment → HasBegun facts start xs' ts' (length xs + 1) moment
      begun_new moment since i is =
          let same : length xs ≡ i = omega (arith, is) in
          subst (λ (n : ℕ). (disk_at facts (after start ts' n)).time ≤ moment) same (subst (λ (y : Point D). (disk_at facts y).time ≤ moment) (sym mid_is) since)

      holds_all : (moment : ℕ) → HoldsAcknowledged facts start xs' ts' (length xs + 1) moment
      holds_all moment i le is = absurd (let lt : i < length xs' = slice_get_within xs' i (answered is.0 Done) is.1 in omega (arith, lt, le, longer))

      -- as long as the new exchange isn't acknowledged, a stop still leaves what it left without this
      -- exchange
      leaves_before : (moment : ℕ) (m : List Sector) → EndsLater moment → LeavesPrefix facts start xs ts moment m → LeavesPrefix facts start xs' ts' moment m
      leaves_before moment m later (k, le, holds, either) = (
        k,
        omega (arith, le, longer),
        holds_before k moment later holds,
        ⊎_elim
            (λ stands. inl (begun_before k moment le stands.0, subst (λ (y : Point D). Stands m y.state) (sym (before_is k le)) stands.1))
            (λ both.
            let done = both.1 in
            let lt : k < length xs = slice_get_within xs k (answered done.0 (Refused Device)) done.1 in
            inr (
              begun_before (k + 1) moment (omega (arith, lt)) both.0,
              (
                done.0,
                cut_before k done.0 done.1,
                subst (λ (y : Point D). IsTrue y.registry.failed) (sym (before_is (k + 1) (omega (arith, lt)))) done.2,
                subst (λ (y : Point D). Stands m (outcome y.state done.0)) (sym (before_is k le)) done.3,
              ),
            ))
            either,
      )

      -- if a stop leaves the state before the new exchange, it leaves the state after the earlier
      -- exchanges
      leaves_mid : (moment : ℕ) (m : List Sector) → (facts mid.disk).time ≤ moment → EndsLater moment → Stands m s → LeavesPrefix facts start xs' ts' moment m
      leaves_mid moment m since later stands = (length xs, omega (arith, longer), holds_rest moment later, inl (begun_rest moment since, subst (λ (y : Point D). Stands m y.state) (sym mid_is) stands))

      -- if a stop leaves the state after the new exchange, it leaves the state after all exchanges
      leaves_new : (moment : ℕ) (m : List Sector) → (facts mid.disk).time ≤ moment → Stands m u.state → LeavesPrefix facts start xs' ts' moment m
      leaves_new moment m since stands = (length xs + 1, omega (arith, longer), holds_all moment, inl (begun_new moment since, subst (λ (y : Point D). Stands m y.state) (sym u_is) stands))

      steps_on : Moves facts (point mid s) x u → LeadsThrough facts start xs' ts'
      steps_on moves = leads_more facts start u x xs ts so_far.steps (subst (λ (y : Point D). Moves facts y x u) so_far.last moves)

    module _ (q : Transaction) (r : Reply) (u : Point D) where
      abbrev x : Exchange
      x = answered q r

      cut_last : r ≡ Refused Device → FailedAt (xs' x u) (length xs) q
      cut_last is = get_last xs x ∙ ap (λ y. Some (answered q y)) is

      -- an exchange that was answered with S1 isn't acknowledged
      unacknowledged : {P : Type 0} (p : Transaction) → r ≡ Refused Device → x ≡ answered p Done → P
      unacknowledged p is done = let no : answered q (Refused Device) ≡ answered p Done = sym (ap (answered q) is) ∙ done in absurd (cc no)

      -- if a stop leaves the state after a change that was cut off, `LeavesPrefix` holds for it
      leaves_flight : (moment : ℕ) (m : List Sector) → (facts mid.disk).time ≤ moment → r ≡ Refused Device → IsTrue u.registry.failed → Stands m (outcome s q)
          → LeavesPrefix facts start (xs ++ x ∷ []) (ts ++ u ∷ []) moment m
      leaves_flight moment m since is failed stands = (
        length xs,
        omega (arith, longer x u),
        holds_rest x u moment (λ p done. unacknowledged p is done),
        inr (
          begun_new x u moment since,
          (
            q,
            cut_last is,
            subst (λ (y : Point D). IsTrue y.registry.failed) (sym (u_is x u)) failed,
            subst (λ (y : Point D). Stands m (outcome y.state q)) (sym (mid_is x u)) stands,
          ),
        ),
      )

      -- a run stays a run if one more command or update follows
      pub ran_more : Turns facts mid s q r u → RanSoFar facts start (xs ++ x ∷ []) (ts ++ u ∷ []) u
      ran_more turns = record {
        steps = steps;
        last = sym (last_more start u ts);
        states = λ k. states_after facts k start (xs ++ x ∷ []) (ts ++ u ∷ []) steps;
        past = keeps_past so_far.past turns.any_moment.past;
        any_moment = any_moment;
        kept = ⊎_elim inl (λ failed. inr failed.0) turns.kept;
        found = λ m mixture. ⊎_elim inl
            (λ flight. inr (flight.0, length xs, q, cut_last flight.1, subst (λ y. Stands m (outcome y q)) (sym flight.3) flight.2))
            (found_after mid u s q r m turns mixture);
      }
        where
          steps : LeadsThrough facts start (xs ++ x ∷ []) (ts ++ u ∷ [])
          steps = steps_on x u turns.moves

          within : (moment : ℕ) (m : List Sector) → (facts mid.disk).time ≤ moment → moment < (disk_at facts u).time
              → Stands m s ⊎ (Stands m u.state ⊎ ((r ≡ Refused Device) × IsTrue u.registry.failed × Stands m (outcome s q)))
              → LeavesPrefix facts start (xs ++ x ∷ []) (ts ++ u ∷ []) moment m
          within moment m since earlier may = ⊎_elim (leaves_mid x u moment m since (λ p done. earlier))
              (λ others. ⊎_elim (leaves_new x u moment m since)
              (λ flight. leaves_flight moment m since flight.0 flight.1 flight.2) others)
              may

          any_moment : (moment : ℕ) (m : List Sector) → (disk_at facts start).time ≤ moment → moment ≤ (disk_at facts u).time → MixtureAt (disk_at facts u) moment m
              → LeavesPrefix facts start (xs ++ x ∷ []) (ts ++ u ∷ []) moment m
          any_moment moment m since until mixture = ⊎_elim
              (λ earlier. ⊎_elim
              (λ later. within moment m (omega (arith, later)) earlier (turns.any_moment.each m (moment, omega (arith, later), until, mixture)))
              (λ le. leaves_before x u moment m (λ p done. earlier) (so_far.any_moment moment m since le (past_mixture turns.any_moment.past moment le m mixture)))
              (cases_lt (facts mid.disk).time moment))
              (λ ended.
              let same : moment ≡ (disk_at facts u).time = omega (arith, ended, until) in
              let begun : (facts mid.disk).time ≤ moment = omega (arith, ended, turns.any_moment.past.later) in
              ⊎_elim (leaves_new x u moment m begun) (λ flight. leaves_flight moment m begun flight.1 flight.0 flight.2)
              (found_after mid u s q r m turns (subst (λ t. MixtureAt (disk_at facts u) t m) same mixture)))
              (cases_lt moment (disk_at facts u).time)

    -- a run stays a run if one more command or update follows after a failed write or sync
    pub ran_reopened : (q : Transaction) → Moves facts (point mid s) (answered q (Refused Reopen)) (point mid s) → IsTrue mid.failed
        → RanSoFar facts start (xs ++ answered q (Refused Reopen) ∷ []) (ts ++ point mid s ∷ []) (point mid s)
    ran_reopened q moves failed = record {
      steps = steps;
      last = sym (last_more start u ts);
      states = λ k. states_after facts k start (xs ++ x ∷ []) (ts ++ u ∷ []) steps;
      past = so_far.past;
      any_moment = λ moment m since until mixture. leaves_before x u moment m
          (λ p done. let no : answered q (Refused Reopen) ≡ answered p Done = done in absurd (cc no))
          (so_far.any_moment moment m since until mixture);
      kept = inr failed;
      found = λ m mixture. ⊎_elim inl (λ flight. inr (flight.0, flight.1, flight.2, cut_before x u flight.1 flight.2 flight.3, flight.4)) (so_far.found m mixture);
    }
      where
        u : Point D
        u = point mid s

        x : Exchange
        x = answered q (Refused Reopen)

        steps : LeadsThrough facts start (xs ++ x ∷ []) (ts ++ u ∷ [])
        steps = steps_on x u moves

    -- a run stays a run if an update that is given up follows
    pub ran_given_up : (u : Point D) → GivesUp facts (point mid s) u → RanSoFar facts start (xs ++ given_up ∷ []) (ts ++ u ∷ []) u
    ran_given_up u gives_up = record {
      steps = steps;
      last = sym (last_more start u ts);
      states = λ k. states_after facts k start (xs ++ given_up ∷ []) (ts ++ u ∷ []) steps;
      past = keeps_past so_far.past gives_up.any_moment.past;
      any_moment = any_moment;
      kept = ⊎_elim (λ at. inl (subst (IsAt facts u.registry) (sym gives_up.same) at)) inr gives_up.kept;
      found = λ m mixture. inl (subst (Stands m) (sym gives_up.same) (⊎_elim
          (λ at. mixture_stands facts u.registry s at m mixture)
          (λ failed. left_now (λ k. Stands k s) gives_up.any_moment m mixture)
          gives_up.kept));
    }
      where
        steps : LeadsThrough facts start (xs ++ given_up ∷ []) (ts ++ u ∷ [])
        steps = steps_on given_up u gives_up

        any_moment : (moment : ℕ) (m : List Sector) → (disk_at facts start).time ≤ moment → moment ≤ (disk_at facts u).time → MixtureAt (disk_at facts u) moment m
            → LeavesPrefix facts start (xs ++ given_up ∷ []) (ts ++ u ∷ []) moment m
        any_moment moment m since until mixture = ⊎_elim
            (λ later. leaves_mid given_up u moment m (omega (arith, later)) (λ q is. given_up_unanswered q is)
            (gives_up.any_moment.each m (moment, omega (arith, later), until, mixture)))
            (λ le. leaves_before given_up u moment m (λ q is. given_up_unanswered q is) (so_far.any_moment moment m since le (past_mixture gives_up.any_moment.past moment le m mixture)))
            (cases_lt (facts mid.disk).time moment)

    -- a run stays a run if a request for no change follows, and the registry stays at its state
    pub ran_idle : (new : Opened D) → IdlesAt facts (point mid s) (point new s) → RanSoFar facts start (xs ++ stepped ∷ []) (ts ++ point new s ∷ []) (point new s)
    ran_idle new idles = record {
      steps = steps;
      last = sym (last_more start u ts);
      states = λ k. states_after facts k start (xs ++ stepped ∷ []) (ts ++ u ∷ []) steps;
      past = keeps_past so_far.past idles.any_moment.past;
      any_moment = any_moment;
      kept = inl idles.after;
      found = λ m mixture. inl (mixture_stands facts new s idles.after m mixture);
    }
      where
        u : Point D
        u = point new s

        steps : LeadsThrough facts start (xs ++ stepped ∷ []) (ts ++ u ∷ [])
        steps = steps_on stepped u (record { same = refl; stays = inl idles })

        any_moment : (moment : ℕ) (m : List Sector) → (disk_at facts start).time ≤ moment → moment ≤ (facts new.disk).time → MixtureAt (facts new.disk) moment m
            → LeavesPrefix facts start (xs ++ stepped ∷ []) (ts ++ u ∷ []) moment m
        any_moment moment m since until mixture = ⊎_elim
            (λ later. leaves_mid stepped u moment m (omega (arith, later)) (λ q is. stepped_unanswered q is)
            (mixture_stands facts mid s idles.before m (idles.any_moment.each m (moment, omega (arith, later), until, mixture))))
            (λ le. leaves_before stepped u moment m (λ q is. stepped_unanswered q is) (so_far.any_moment moment m since le (past_mixture idles.any_moment.past moment le m mixture)))
            (cases_lt (facts mid.disk).time moment)

    -- a run stays a run if a request for no change follows after a failed write or sync
    pub ran_idle_failed : (new : Opened D) → IsTrue mid.failed → IsTrue new.failed → new.disk ≡ mid.disk → RanSoFar facts start (xs ++ stepped ∷ []) (ts ++ point new s ∷ []) (point new s)
    ran_idle_failed new was failed same = record {
      steps = steps;
      last = sym (last_more start u ts);
      states = λ k. states_after facts k start (xs ++ stepped ∷ []) (ts ++ u ∷ []) steps;
      past = subst (λ (d : D). KeepsPast (disk_at facts start) (facts d)) (sym same) so_far.past;
      any_moment = λ moment m since until mixture. leaves_before stepped u moment m (λ q is. stepped_unanswered q is)
          (so_far.any_moment moment m since (subst (λ (d : D). moment ≤ (facts d).time) same until) (subst (λ (d : D). MixtureAt (facts d) moment m) same mixture));
      kept = inr failed;
      found = λ m mixture. ⊎_elim inl (λ flight. inr (failed, flight.1, flight.2, cut_before stepped u flight.1 flight.2 flight.3, flight.4))
          (so_far.found m (subst (λ (d : D). Mixture (facts d) m) same mixture));
    }
      where
        u : Point D
        u = point new s

        steps : LeadsThrough facts start (xs ++ stepped ∷ []) (ts ++ u ∷ [])
        steps = steps_on stepped u (record { same = refl; stays = inr (was, failed, same) })

  -- a run without any exchange ends where it starts
  pub ran_none : (old : Opened D) (s : State) → IsAt facts old s → RanSoFar facts (point old s) [] [] (point old s)
  ran_none old s at = record {
    steps = tt;
    last = refl;
    states = λ k. states_after facts k (point old s) [] [] tt;
    past = record { sectors = refl; later = omega arith; marks = λ u le. refl; past = λ u k c le. (λ x. x, λ x. x) };
    any_moment = λ moment m since until mixture.
        let same : moment ≡ (facts old.disk).time = omega (arith, since, until) in (
          0,
          omega arith,
          (λ i le is. absurd (let lt : i < 0 = slice_get_within [] i (answered is.0 Done) is.1 in omega (arith, lt))),
          inl (
            (λ i is. absurd (let no : i + 1 ≡ 0 = is in omega (arith, no))),
            mixture_stands facts old s at m
                (subst (λ t. MixtureAt (facts old.disk) t m) same mixture),
          ),
        );
    kept = inl at;
    found = λ m mixture. inl (mixture_stands facts old s at m mixture);
  }

  pub runs_none : (old : Opened D) (s : State) → IsAt facts old s → RunsVia facts old [] old s []
  runs_none old s at = (s, [], refl, ran_none old s at)

  module _ (old mid new : Opened D) (s : State) (xs : List Exchange) (registries : List (Opened D)) (so_far : RunsVia facts old registries mid s xs) where
    -- if one point is appended, its registry is appended to the registries of the points
    via : (t : State) (ts : List (Point D)) → map (λ (p : Point D). p.registry) ts ≡ registries → map (λ (p : Point D). p.registry) (ts ++ point new t ∷ []) ≡ registries ++ new ∷ []
    via t ts same = map-append (λ (p : Point D). p.registry) ts (point new t ∷ []) ∙ ap (λ l. l ++ new ∷ []) same

    -- a run of commands stays a run if one more command follows, whatever has failed
    pub runs_turn : (q : Request) (r : Reply)
        → ((t : State) → IsAt facts mid t → Applies facts mid new t q r)
        → ((t : State) → IsAt facts mid t → IfAccepted r (AreCallsExactly (calls_of t q) (facts mid.disk) (facts new.disk)))
        → Did facts mid new q r → RunsVia facts old (registries ++ new ∷ []) new s (xs ++ answered (command q) r ∷ [])
    runs_turn q r applies calls did =
        let t = so_far.0 in
        let ts = so_far.1 in ⊎_elim
        (λ at. let applied = applies t at in (
          applied.0,
          ts
              ++ point new applied.0 ∷ [],
          via applied.0 ts so_far.2,
          ran_more (point old s) mid t xs ts so_far.3 (command q) r (point new applied.0)
              (command_turns mid new t applied.0 q r did (record { at = at; applied = applied.1; calls = calls t at })),
        ))
        (λ failed.
        let reopen : r ≡ Refused Reopen = did.reopen.1 failed in
        let same : new ≡ mid = did.failed failed in
        let nothing : Did facts mid mid q (Refused Reopen) = subst (λ (y : Reply). Did facts mid mid q y) reopen (subst (λ (k : Opened D). Did facts mid k q r) same did) in
        let ran : RanSoFar facts (point old s) (xs ++ answered (command q) (Refused Reopen) ∷ []) (ts ++ point mid t ∷ []) (point mid t) =
        ran_reopened (point old s) mid t xs ts so_far.3 (command q) (record { did = nothing; applied = inr (failed, refl) }) failed in (
          t,
          ts ++ point new t ∷ [],
          via t ts so_far.2,
          subst (λ (k : Opened D). RanSoFar facts (point old s) (xs ++ answered (command q) r ∷ []) (ts ++ point k t ∷ []) (point k t)) (sym same)
              (subst (λ (y : Reply). RanSoFar facts (point old s) (xs ++ answered (command q) y ∷ []) (ts ++ point mid t ∷ []) (point mid t)) (sym reopen) ran),
        ))
        so_far.3.kept

    -- a run of commands stays a run if one more request for no change follows
    pub runs_idle : ((t : State) → IsAt facts mid t → IsAt facts new t)
        → (IsTrue (facts mid.disk).honest → LeavesOnly (facts mid.disk) (facts new.disk) (Mixture (facts mid.disk)))
        → (IsTrue mid.failed → IsTrue new.failed × (new.disk ≡ mid.disk)) → RunsVia facts old (registries ++ new ∷ []) new s (xs ++ stepped ∷ [])
    runs_idle same any_moment failed =
        let t = so_far.0 in
        let ts = so_far.1 in ⊎_elim
        (λ at. (t, ts ++ point new t ∷ [], via t ts so_far.2, ran_idle (point old s) mid t xs ts so_far.3 new (record { before = at; after = same t at; any_moment = any_moment at.stored.honest })))
        (λ was. (t, ts ++ point new t ∷ [], via t ts so_far.2, ran_idle_failed (point old s) mid t xs ts so_far.3 new was (failed was).0 (failed was).1))
        so_far.3.kept

  module _ (start end : Point D) (xs : List Exchange) (ts : List (Point D)) (ran_so_far : RanSoFar facts start xs ts end) where
    -- the last state of a run is the state after the acknowledged commands
    ends_acknowledged : end.state ≡ state_after start.state (acknowledged xs)
    ends_acknowledged =
        let same = leads_length facts start xs ts ran_so_far.steps in
        ap (λ (y : Point D). y.state) (ran_so_far.last ∙ sym (after_all_steps start ts (length xs) (omega (arith, same))))
        ∙ ran_so_far.states (length xs)
        ∙ ap (λ l. state_after start.state (acknowledged l)) (take_all (length xs) xs (omega arith))

    -- A mixture at the end holds the state after the accepted commands: the acknowledged ones, and
    -- perhaps the one that a failing write or sync cut off.
    found_accepted : FindsAccepted facts end.registry start.state xs
    found_accepted m mixture = ⊎_elim
        (λ stands. (acknowledged xs, inl refl, subst (Stands m) ends_acknowledged stands))
        (λ flight. (
          acknowledged xs ++ flight.2 ∷ [],
          inr (flight.1, flight.2, flight.3, refl),
          subst (Stands m) (ap (λ y. outcome y flight.2) ends_acknowledged ∙ sym (fold-append outcome start.state (acknowledged xs) (flight.2 ∷ []))) flight.4,
        ))
        (ran_so_far.found m mixture)

    -- A stop at a moment leaves the state after the accepted ones of the first k exchanges, which
    -- contain every command acknowledged by then.
    left_accepted : (moment : ℕ) (m : List Sector) → LeavesPrefix facts start xs ts moment m → LeavesAccepted facts start xs ts moment m
    left_accepted moment m (k, le, holds, either) = ⊎_elim
        (λ stands. (k, le, stands.0, holds, acknowledged (take k xs), inl refl, subst (Stands m) (ran_so_far.states k) stands.1))
        (λ both.
        let done = both.1 in
        let q = done.0 in
        let cut = done.1 in
        let lt : k < length xs = slice_get_within xs k (answered q (Refused Device)) cut in
        let same : acknowledged (take (suc k) xs) ≡ acknowledged (take k xs) = cut_unacknowledged xs k q cut in (
          suc k,
          omega (arith, lt),
          (λ i is. both.0 i (omega (arith, is))),
          (λ i le' is. holds i (omega (arith, le')) is),
          acknowledged (take (suc k) xs) ++ q ∷ [],
          inr (k, q, get_take xs k ∙ cut, refl),
          subst (Stands m)
              (ap (λ y. outcome y q) (ran_so_far.states k ∙ ap (state_after start.state) (sym same)) ∙ sym (fold-append outcome start.state (acknowledged (take (suc k) xs)) (q ∷ [])))
              done.3,
        ))
        either

    -- at its end, a run that may still go on is a run as `Ran` defines it
    pub ran : Ran facts start xs ts end
    ran = record {
      steps = ran_so_far.steps;
      last = ran_so_far.last;
      states = ran_so_far.states;
      kept = ran_so_far.kept;
      past = ran_so_far.past;
      any_moment = λ moment m since until mixture. left_accepted moment m (ran_so_far.any_moment moment m since until mixture);
      found = found_accepted;
    }

  pub runs_through : (old new : Opened D) (s : State) (xs : List Exchange) (registries : List (Opened D)) → RunsVia facts old registries new s xs → RunsThrough facts old registries new s xs
  runs_through old new s xs registries (t, ts, same, so_far) = (t, ts, same, ran (point old s) (point new t) xs ts so_far)

  -- a run stays a run if one more exchange of any kind follows
  ran_step : (start mid u : Point D) (x : Exchange) (xs : List Exchange) (ts : List (Point D)) → RanSoFar facts start xs ts mid → Moves facts mid x u
      → RanSoFar facts start (xs ++ x ∷ []) (ts ++ u ∷ []) u
  ran_step start mid u (answered (command q) r) xs ts so_far goes = ⊎_elim
      (λ applies. ran_more start mid.registry mid.state xs ts so_far (command q) r u (command_turns mid.registry u.registry mid.state u.state q r goes.did applies))
      (λ nothing.
      let reopen : r ≡ Refused Reopen = goes.did.reopen.1 nothing.0 in
      let moves : Moves facts mid (answered (command q) (Refused Reopen)) mid =
      subst (λ (y : Reply). Moves facts mid (answered (command q) y) mid) reopen (subst (λ (v : Point D). Moves facts mid (answered (command q) r) v) nothing.1 goes) in
      subst (λ (v : Point D). RanSoFar facts start (xs ++ answered (command q) r ∷ []) (ts ++ v ∷ []) v) (sym nothing.1)
      (subst (λ (y : Reply). RanSoFar facts start (xs ++ answered (command q) y ∷ []) (ts ++ mid ∷ []) mid) (sym reopen)
      (ran_reopened start mid.registry mid.state xs ts so_far (command q) moves nothing.0)))
      goes.applied
  ran_step start mid u (answered (update qs) r) xs ts so_far updates = ⊎_elim
      (λ at. ran_more start mid.registry mid.state xs ts so_far (update qs) r u (update_turns mid.registry u mid.state qs r at))
      (λ nothing.
      subst (λ (v : Point D). RanSoFar facts start (xs ++ answered (update qs) r ∷ []) (ts ++ v ∷ []) v) (sym nothing.2)
      (subst (λ (y : Reply). RanSoFar facts start (xs ++ answered (update qs) y ∷ []) (ts ++ mid ∷ []) mid) (sym nothing.1)
      (ran_reopened start mid.registry mid.state xs ts so_far (update qs) (inr (nothing.0, refl, refl)) nothing.0)))
      updates
  ran_step start mid u given_up xs ts so_far gives_up = ran_given_up start mid.registry mid.state xs ts so_far u gives_up
  ran_step start mid u stepped xs ts so_far idles =
      let same : point u.registry mid.state ≡ u = ap (point u.registry) (sym idles.same) in
      subst (λ (v : Point D). RanSoFar facts start (xs ++ stepped ∷ []) (ts ++ v ∷ []) v) same (⊎_elim
      (λ stays. ran_idle start mid.registry mid.state xs ts so_far u.registry (subst (IdlesAt facts mid) (sym same) stays))
      (λ failed. ran_idle_failed start mid.registry mid.state xs ts so_far u.registry failed.0 failed.1 failed.2)
      idles.stays)

  -- a run stays a run if more exchanges follow
  ran_on : (start mid : Point D) (xs : List Exchange) (ts : List (Point D)) → RanSoFar facts start xs ts mid → (ys : List Exchange) (us : List (Point D)) → LeadsThrough facts mid ys us
      → RanSoFar facts start (xs ++ ys) (ts ++ us) (last_of mid us)
  ran_on start mid xs ts so_far [] [] leads =
      subst (λ (l : List Exchange). RanSoFar facts start l (ts ++ []) mid) (sym (append-nil xs)) (subst (λ (l : List (Point D)). RanSoFar facts start xs l mid) (sym (append-nil ts)) so_far)
  ran_on start mid xs ts so_far (y ∷ ys) (u ∷ us) leads =
      let next = ran_on start u (xs ++ y ∷ []) (ts ++ u ∷ []) (ran_step start mid u y xs ts so_far leads.0) ys us leads.1 in
      subst (λ (l : List Exchange). RanSoFar facts start l (ts ++ u ∷ us) (last_of u us)) (append_assoc xs (y ∷ []) ys)
      (subst (λ (l : List (Point D)). RanSoFar facts start ((xs ++ y ∷ []) ++ ys) l (last_of u us)) (append_assoc ts (u ∷ []) us) next)
  ran_on start mid xs ts so_far [] (u ∷ us) leads = absurd leads
  ran_on start mid xs ts so_far (y ∷ ys) [] leads = absurd leads

  -- Exchanges that begin with a registry at a state are a run.
  pub steps_ran : (start : Point D) (xs : List Exchange) (ts : List (Point D)) → IsAt facts start.registry start.state → LeadsThrough facts start xs ts → Ran facts start xs ts (last_of start ts)
  steps_ran start xs ts at leads = ran start (last_of start ts) xs ts (ran_on start start [] [] (ran_none start.registry start.state at) xs ts leads)

  -- If a second run begins where the first one ended, both together are one run.
  pub runs_joined : (start mid end : Point D) (xs ys : List Exchange) (ts us : List (Point D)) → IsAt facts start.registry start.state → Ran facts start xs ts mid → Ran facts mid ys us end
      → Ran facts start (xs ++ ys) (ts ++ us) end
  runs_joined start mid end xs ys ts us at first second =
      let leads = leads_on facts start xs ts ys us first.steps (subst (λ (p : Point D). LeadsThrough facts p ys us) first.last second.steps) in
      subst (Ran facts start (xs ++ ys) (ts ++ us)) (last_joined start ts us ∙ ap (λ (p : Point D). last_of p us) (sym first.last) ∙ sym second.last)
      (steps_ran start (xs ++ ys) (ts ++ us) at leads)

-- if one command is appended, its exchange is appended to the exchanges of the commands
pub commanded_more : (qs : List Request) (rs : List Reply) (q : Request) (r : Reply) → length qs ≡ length rs → commanded (qs ++ q ∷ []) (rs ++ r ∷ []) ≡ commanded qs rs ++ answered (command q) r ∷ []
commanded_more [] [] q r same = refl
commanded_more (x ∷ qs) (y ∷ rs) q r same = ap (λ l. answered (command x) y ∷ l) (commanded_more qs rs q r (omega (arith, same)))
commanded_more [] (y ∷ rs) q r same = absurd (omega (arith, same))
commanded_more (x ∷ qs) [] q r same = absurd (omega (arith, same))
