-- Lemmas that lead from a registry on given bytes to clauses about the bytes and the plan.
use Rattle.std.proofs.Common.{◌≡◌, ◌⊎◌, inl, inr, ⊎_elim, ℕ, ◌+◌, ◌<◌, ◌≤◌, List, length, take, All, false, refl, sym, ◌∙◌, ap, subst, arith}
use Rattle.std.proofs.lemmas.Bool.{both_ways}
use Rattle.sector_disk.specs.Disk.{Sector, Mixture, LeavesOnly, AreCallsExactly, MayAddSync}
use Rattle.sector_disk.proofs.Mixtures.{starts_synced}
use Rattle.sector_disk.proofs.Moments.{goes_on, weaken, exactly_logged}
use Rattle.byte_disk.specs.declared.disk.ByteDisk.{ByteDisk}
use Rattle.byte_disk.specs.Bytes.{sectors_in}
use Rattle.byte_disk.specs.ByteDisk.{byte_facts, plan_of}
use Rattle.byte_disk.specs.Plan.{IsMixtureAfter, writes_in, SectorWrite}
use Rattle.byte_disk.specs.inside.Laws.{byte_holds}
use Rattle.byte_disk.proofs.Plans.{is_plan, same_given, plan_leaves, plan_ends}
use Rattle.states.specs.State.{State}
use Rattle.store.specs.Holds.{lone_sectors}
use Rattle.store.specs.Opened.{Opened, IsAt}
use Rattle.roots.specs.declared.version.Version.TheVariants.{Two}
use Rattle.store.specs.Stands as sectors
use Rattle.store.specs.Stands.{StandsBy}
use Rattle.store.specs.Step.{longest_unused}
use Rattle.store.specs.declared.holds.HeldRow.{HeldRow}
use Rattle.requests.specs.Library.{IsLibrary}
use Rattle.requests.specs.Phase.{Phase}
use Rattle.requests.specs.Request.{Request, install, replace, remove, set_preloads, bind, list}
use Rattle.requests.specs.Step as registry
use Rattle.requests.specs.Step.{accepted}
use Rattle.requests.specs.declared.refusal.Refusal.TheVariants.{Damaged, Device}
use Rattle.requests.specs.declared.reply.Reply.{Reply}
use Rattle.requests.specs.declared.reply.Reply.TheVariants.{Done, Refused}
use Rattle.registry.specs.Applied.{MayLeaveBy}
use Rattle.registry.specs.Calls.{IfAccepted, calls_of}
use Rattle.registry.specs.Phase.{phase_of}
use Rattle.registry.specs.Stands.{Stands}
use Rattle.registry.specs.Untested.{AppliedUntested, AppliesUntested, UntestedStep}
use Rattle.registry.proofs.States.{few_libraries}
use Rattle.registry.proofs.Untested.{each_accepted, other_step}
use Rattle.byte_registry.specs.Bytes.{HoldStore}
use Rattle.byte_registry.specs.Asked.{IsDiskOf, IsAsked}
use Rattle.byte_registry.specs.inside.Opening.{IsOpenedOn}
use Rattle.byte_registry.specs.Plans.{Holds, LeadsFrom, LeadsTo, behind_sync, synced_plan, most_steps}
use Rattle.byte_registry.specs.Replies.{phase_on, opened_on, IsReplyOn}
use Rattle.byte_registry.proofs.Steps.{few_steps}
use Rattle.byte_registry.proofs.Syncs.{begun_prefix, begun_whole, same_writes, plan_few}

-- If a fact holds at every moment since a disk was made from bytes, and another at the end, both hold
-- for the disk's plan.
pub leads_from : (bytes : List ℕ) (old new : ByteDisk) (Before After : List Sector → Type 0) → IsDiskOf bytes old
    → LeavesOnly (byte_facts old) (byte_facts new) (λ m. Before m ⊎ After m) → ((m : List Sector) → Mixture (byte_facts new) m → After m)
    → LeadsFrom (sectors_in bytes) Before After (synced_plan new)
leads_from bytes old new Before After is leaves found =
    let start = sectors_in bytes in
    let steps = plan_of new in
    record {
      begins = (behind_sync steps, refl);
      prefix = begun_prefix start (λ m. Before m ⊎ After m) steps
          (λ n le m mixture. plan_leaves old new (λ m. Before m ⊎ After m) is.starts.time leaves n le m
          (subst (λ given. IsMixtureAfter given (take n steps) m) (sym is.given) mixture));
      whole = begun_whole start After steps (λ m mixture. plan_ends old new After leaves.past found m (subst (λ given. IsMixtureAfter given steps m) (sym is.given) mixture));
      inside = subst (All (λ (write : SectorWrite). write.0 < length start)) (sym (same_writes steps))
          (subst (λ given. All (λ (write : SectorWrite). write.0 < length given) (writes_in steps)) (same_given old new leaves.past ∙ is.given) (is_plan new).inside);
    }

-- if a command is answered with S1, the number of failures has risen
failed_risen : (p : Phase) (request : Request) (p' : Phase) → UntestedStep p request (Refused Device) p' → p.failures < p'.failures
failed_risen p (install bytes) p' step = step.1.risen
failed_risen p (replace bytes) p' step = step.1.risen
failed_risen p (remove name) p' step = step.1.risen
failed_risen p (set_preloads names) p' step = step.1.risen
failed_risen p (bind program base) p' step = step.0.1.risen
failed_risen p list p' step = absurd step.1

-- before any call, a disk of bytes may leave only its sectors
pub starts_with : (bytes : List ℕ) (disk : ByteDisk) → IsDiskOf bytes disk → (m : List Sector) → Mixture (byte_facts disk) m → m ≡ sectors_in bytes
starts_with bytes disk is m mixture = (starts_synced (byte_holds disk) is.starts).each m mixture ∙ is.starts.now

-- A registry was opened on bytes.
module _ (bytes : List ℕ) (opened : Opened ByteDisk) (on : IsOpenedOn bytes opened) where
  abbrev pub s : State
  s = on.found.0

  abbrev pub start : List Sector
  start = sectors_in bytes

  is : IsDiskOf bytes on.disk
  is = on.of_bytes

  pub holds : HoldStore bytes s
  holds = record { size = is.size; stands = subst (λ m. sectors.Stands m s) is.starts.now on.found.1 }

  pub only : (other : State) → HoldStore bytes other → other ≡ s
  only other held = on.found.3 other (subst (λ m. sectors.Stands m other) (sym is.starts.now) held.stands)

  -- the root and the entries of the opened registry are in the sectors of the bytes
  pub stands_by : StandsBy Two start opened.root opened.entries s
  stands_by = on.found.2.stands start (subst (Mixture (byte_facts opened.disk)) (on.now ∙ is.starts.now) (byte_holds opened.disk))

  -- A change to another state is made, and a stop meanwhile leaves the state before or after it. Then
  -- the plan leads to the other state, whichever definition determines the state that sectors hold.
  module _ (s' : State) (new : ByteDisk) (any_moment : LeavesOnly (byte_facts opened.disk) (byte_facts new) (λ m. sectors.Stands m s ⊎ sectors.Stands m s'))
      (ends : (m : List Sector) → Mixture (byte_facts new) m → sectors.Stands m s') where
    module _ (HoldsIt : List Sector → State → Type 0) (before_holds : (m : List Sector) → sectors.Stands m s → HoldsIt m s)
        (after_holds : (m : List Sector) → sectors.Stands m s' → HoldsIt m s') where
      leaves : LeavesOnly (byte_facts on.disk) (byte_facts new) (λ m. HoldsIt m s ⊎ HoldsIt m s')
      leaves = goes_on (λ m. HoldsIt m s ⊎ HoldsIt m s')
          (weaken (Mixture (byte_facts on.disk)) (λ m. HoldsIt m s ⊎ HoldsIt m s')
          (λ m mixture. inl (before_holds m (subst (λ m. sectors.Stands m s) (sym (starts_with bytes on.disk is m mixture)) holds.stands))) on.any_moment)
          (weaken (λ m. sectors.Stands m s ⊎ sectors.Stands m s') (λ m. HoldsIt m s ⊎ HoldsIt m s')
          (λ m. ⊎_elim (λ before. inl (before_holds m before)) (λ after. inr (after_holds m after))) any_moment)

      leads : LeadsTo HoldsIt start s s' (synced_plan new)
      leads = leads_from bytes on.disk new (λ m. HoldsIt m s) (λ m. HoldsIt m s') is leaves (λ m mixture. after_holds m (ends m mixture))

    pub leads_stored : LeadsTo sectors.Stands start s s' (synced_plan new)
    leads_stored = leads sectors.Stands (λ m stands. stands) (λ m stands. stands)

    pub leads_registry : All IsLibrary s'.libraries → Holds bytes s → LeadsTo Stands start s s' (synced_plan new)
    leads_registry after held =
        leads Stands (λ m stands. record { stored = stands; libraries = held.stands.libraries }) (λ m stands. record { stored = stands; libraries = after })

  -- the number of sectors and the phase of the opened registry follow from the bytes
  same_sectors : (byte_facts opened.disk).sectors ≡ length start
  same_sectors = on.any_moment.past.sectors ∙ is.starts.sectors

  abbrev phase_by : ℕ → List HeldRow → Phase
  phase_by sectors held = record {
    sectors = sectors;
    lone = length (lone_sectors held);
    longest = longest_unused (let store : Opened (List Sector) = record { disk = start; root = opened.root; entries = opened.entries; held = held; failed = false } in store);
    failures = (byte_facts opened.disk).failures;
    failed = opened.failed;
    state = s;
  }

  same_phase : phase_of byte_facts opened s ≡ phase_on start opened.root opened.entries (byte_facts opened.disk).failures s
  same_phase =
      ap (λ n. phase_by n opened.held) same_sectors
      ∙ ap (λ held. phase_by (length start) held) on.unheld
      ∙ ap (λ b. let p : Phase = record {
        sectors = length start;
        lone = 0;
        longest =
            longest_unused (opened_on start opened.root opened.entries);
        failures = (byte_facts opened.disk).failures;
        failed = b;
        state = s;
      } in p)
      on.found.2.usable

  module _ (request : Request) (reply : Reply) (new : Opened ByteDisk) (applies : AppliesUntested byte_facts opened new s request reply) where
    abbrev s' : State
    s' = applies.0

    abbrev is_reply : IsReplyOn start s request reply
    is_reply = record {
      root = opened.root;
      entries = opened.entries;
      by = stands_by;
      failures = (byte_facts opened.disk).failures;
      after = phase_of byte_facts new s';
      step = subst (λ p. UntestedStep p request reply (phase_of byte_facts new s')) same_phase applies.1.step;
    }

    module _ (is_done : reply ≡ Done) where
      applied : AppliedUntested byte_facts opened new s s' request Done
      applied = subst (λ r. AppliedUntested byte_facts opened new s s' request r) is_done applies.1

      step : registry.Step (phase_of byte_facts opened s) request Done (phase_of byte_facts new s')
      step = other_step (phase_of byte_facts opened s) request Done (phase_of byte_facts new s') not_damaged applied.step
        where
          not_damaged : Done ≡ Refused Damaged → ⊥
          not_damaged is = cc

      same_state : s' ≡ accepted s request
      same_state = step.3.state

      at_end : IsAt byte_facts new s'
      at_end = ⊎_elim (λ at. at) (λ broken. absurd (both_ways new.failed (step.3.failed ∙ step.0) broken.0)) applied.kept

      may : (m : List Sector) → MayLeaveBy sectors.Stands (phase_of byte_facts opened s) request Done s' m → sectors.Stands m s ⊎ sectors.Stands m (accepted s request)
      may m left = ⊎_elim inl (λ later. ⊎_elim (λ after. inr (subst (sectors.Stands m) same_state after)) (λ flight. absurd (not_device flight.0)) later) left
        where
          not_device : Done ≡ Refused Device → ⊥
          not_device e = cc

      any_moment : LeavesOnly (byte_facts opened.disk) (byte_facts new.disk) (λ m. sectors.Stands m s ⊎ sectors.Stands m (accepted s request))
      any_moment = weaken (MayLeaveBy sectors.Stands (phase_of byte_facts opened s) request Done s') (λ m. sectors.Stands m s ⊎ sectors.Stands m (accepted s request)) may applied.any_moment

      ends : (m : List Sector) → Mixture (byte_facts new.disk) m → sectors.Stands m (accepted s request)
      ends m mixture = subst (sectors.Stands m) same_state (new.root, new.entries, at_end.stands m mixture)

      -- The plan has at most one sync of the opening, and the calls of the change.
      module _ (calls : IfAccepted reply (AreCallsExactly (calls_of s request) (byte_facts opened.disk) (byte_facts new.disk))) where
        few : length (synced_plan new.disk) ≤ calls_of s request + 1
        few =
            let change : AreCallsExactly (calls_of s request) (byte_facts opened.disk) (byte_facts new.disk) =
            subst (λ r. IfAccepted r (AreCallsExactly (calls_of s request) (byte_facts opened.disk) (byte_facts new.disk))) is_done calls in
            plan_few new.disk (calls_of s request) (record {
              begun = (byte_facts opened.disk).log;
              sync = subst (λ log. MayAddSync log (byte_facts opened.disk).log) is.starts.log on.log;
              more = exactly_logged change;
            })

        at_most : length (synced_plan new.disk) ≤ most_steps request
        at_most = few_steps request s (length (synced_plan new.disk)) step.2 few
            (few_libraries byte_facts opened s on.found.2 (λ honest. byte_holds opened.disk))
            (subst (λ t. length t.libraries ≤ 2048) same_state (few_libraries byte_facts new s' at_end (λ honest. byte_holds new.disk)))

    module _ (calls : IfAccepted reply (AreCallsExactly (calls_of s request) (byte_facts opened.disk) (byte_facts new.disk))) where
      pub asked : (s : State) × IsAsked bytes s request reply (synced_plan new.disk)
      asked = (
        s,
        record {
          holds = holds;
          only = only;
          by_table = is_reply;
          leads = λ is_done. leads_stored (accepted s request) new.disk (any_moment is_done) (ends is_done);
          registry = λ is_done held.
              leads_registry (accepted s request) new.disk (any_moment is_done) (ends is_done)
              (each_accepted (phase_of byte_facts opened s) request (step is_done).1 held.stands.libraries) held;
          few = λ is_done. few is_done calls;
          at_most = λ is_done. at_most is_done calls;
        },
      )

    -- If the answer is S1, a call failed.
    pub failed : reply ≡ Refused Device → 0 < (byte_facts new.disk).failures
    failed e = omega (
      arith,
      failed_risen (phase_of byte_facts opened s) request (phase_of byte_facts new s')
          (subst (λ r. UntestedStep (phase_of byte_facts opened s) request r (phase_of byte_facts new s')) e applies.1.step),
    )
