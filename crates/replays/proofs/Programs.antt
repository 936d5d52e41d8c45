-- What `rlibreg-tool dump` and then `rlibreg script` do.
use Rattle.std.proofs.Common.{◌≡◌, ℕ, ◌+◌, Bool, true, false, cond, List, [], ◌∷◌, ◌++◌, append-nil, map}
use Rattle.std.proofs.Common.{Option, Some, IsTrue, refl, sym, ap, subst, ◌∙◌, arith, inl, inr, ⊎_elim, if◌then◌else◌}
use Rattle.std.specs.Prelude.{◌⊎◌, ◌==◌, All, count_by, IfSome}
use Rattle.std.specs.List.{cons_option, flat_map}
use Rattle.std.specs.Io.Iter.{u64_saturate}
use Rattle.std.proofs.lemmas.Bool.{eqb-true}
use Rattle.std.proofs.lemmas.List.Elements.{All-cons, All-head, All-nil, All-tail}
use Rattle.std.proofs.lemmas.List.Sums.{sum_by-append, sum_by-cons}
use Rattle.sector_disk.specs.Disk.{DiskFacts, HoldsNow}
use Rattle.states.specs.State.{State, empty_state}
use Rattle.requests.specs.Request.{Request, install, replace, remove, set_preloads, bind, list}
use Rattle.requests.specs.Runs.{Steps}
use Rattle.requests.specs.declared.reply.Reply.{Reply}
use Rattle.requests.specs.declared.reply.Reply.TheVariants.{Done, Listing, Bound, Refused}
use Rattle.registry.specs.Acknowledged.{Exchange, answered, command}
use Rattle.registry.specs.Answered.{IsAnswerTo}
use Rattle.registry.specs.Opened.{IsAt}
use Rattle.registry.specs.Ran.{RunsThrough}
use Rattle.registry.specs.Stands.{Stands}
use Rattle.registry.proofs.States.{mixture_stands}
use Rattle.binders.specs.Events.{Happening, Happens, apply}
use Rattle.binders.specs.EventsRan.{EventStep, exchange_of, exchanges}
use Rattle.binders.specs.Slotted.{Slotted}
use Rattle.binders.specs.declared.event.EventReply.{EventReply}
use Rattle.binders.specs.declared.event.EventReply.TheVariants as event
use Rattle.commands.specs.Answer.{is_refused}
use Rattle.commands.specs.DiskScript.{LinesRan, happenings, replied}
use Rattle.commands.specs.Line.{meaning}
use Rattle.commands.specs.OnDisk.{DiskScriptEnds, RunsOnDisk}
use Rattle.scripts.specs.Line.{IsLine, ended}
use Rattle.commands.specs.Script.{Streams, cut_answer}
use Rattle.commands.specs.Status.{fault_status, greatest, lines_status}
use Rattle.commands.specs.declared.answer.Answer.{Answer}
use Rattle.commands.specs.declared.answer.Answer.TheVariants as answer
use Rattle.scripts.specs.declared.fault.ScriptFault.{ScriptFault}
use Rattle.scripts.specs.declared.fault.ScriptFault.TheVariants as fault
use Rattle.program_parts.specs.Status.{disk_status}
use Rattle.program_parts.specs.declared.status.Status.{Status}
use Rattle.program_parts.specs.declared.status.Status.TheVariants as status
use Rattle.store.specs.declared.refusal.StoreRefusal.{StoreRefusal}
use Rattle.tool_commands.specs.Dump.{cut_text, dump_text}
use Rattle.replays.specs.Replay.{IsStateOfBytes, copy_of, requests_for}
use Rattle.replays.proofs.Answers.{IsChange, all_change}
use Rattle.replays.proofs.Copies.{copied, done}
use Rattle.replays.proofs.Readings.{same_head, same_tail}
use Rattle.replays.proofs.Scripts.{asking, cut_ends, is_script}
use Rattle.replays.proofs.Statuses.{not_done}

-- ---- lines that ask for these requests, each answered and none refused

no_end : {X : Type 0} (x : X) (xs : List X) → [] ≡ x ∷ xs → ⊥
no_end x xs h = cc h

all_happen : (lines : List (List ℕ)) (requests : List Request) → map meaning lines ≡ map asking requests → happenings lines ≡ map apply requests
all_happen [] [] h = refl
all_happen [] (r ∷ requests) h = absurd (no_end (asking r) (map asking requests) h)
all_happen (line ∷ lines) [] h = absurd (no_end (meaning line) (map meaning lines) (sym h))
all_happen (line ∷ lines) (r ∷ requests) h =
    ap (λ (o : Option Happening). cons_option o (happenings lines)) (same_head (meaning line) (asking r) (map meaning lines) (map asking requests) h)
    ∙ ap (λ (rest : List Happening). apply r ∷ rest) (all_happen lines requests (same_tail (meaning line) (asking r) (map meaning lines) (map asking requests) h))

-- the reply isn't a refusal
abbrev is_accepted : EventReply → Type 0
is_accepted reply = is_refused (answer.Replied reply) ≡ false

zero_parts : (b : Bool) (n : ℕ) → cond b 1 0 + n ≡ 0 → (b ≡ false) × (n ≡ 0)
zero_parts true n h = absurd (omega (arith, h))
zero_parts false n h = (refl, omega (arith, h))

none_counted : (answers : List Answer) → count_by is_refused answers ≡ 0 → All is_accepted (replied answers)
none_counted [] h = All-nil is_accepted
none_counted (answer.Replied reply ∷ answers) h =
    let parts = zero_parts (is_refused (answer.Replied reply)) (count_by is_refused answers) (sym (sum_by-cons (λ a. cond (is_refused a) 1 0) (answer.Replied reply) answers) ∙ h) in
    All-cons is_accepted reply (replied answers) parts.0 (none_counted answers parts.1)
none_counted (answer.BadLine ∷ answers) h =
    none_counted answers (zero_parts true (count_by is_refused answers) (sym (sum_by-cons (λ a. cond (is_refused a) 1 0) answer.BadLine answers) ∙ h)).1
none_counted (answer.CutLine ∷ answers) h =
    none_counted answers (zero_parts true (count_by is_refused answers) (sym (sum_by-cons (λ a. cond (is_refused a) 1 0) answer.CutLine answers) ∙ h)).1

-- a change that isn't refused is answered Done
change_done : (r : Request) (reply : Reply) → IsChange r → IsAnswerTo r reply → is_accepted (event.Replied reply) → reply ≡ Done
change_done (install bytes) Done change is fine = refl
change_done (install bytes) (Refused refusal) change is fine = cc fine
change_done (install bytes) (Listing listing) change is fine = absurd is
change_done (install bytes) (Bound image) change is fine = absurd is
change_done (set_preloads names) Done change is fine = refl
change_done (set_preloads names) (Refused refusal) change is fine = cc fine
change_done (set_preloads names) (Listing listing) change is fine = absurd is
change_done (set_preloads names) (Bound image) change is fine = absurd is
change_done (replace bytes) reply change is fine = absurd change
change_done (remove name) reply change is fine = absurd change
change_done (bind program base) reply change is fine = absurd change
change_done list reply change is fine = absurd change

module _ {D : Type 0} (facts : D → DiskFacts) where
  exchange_done : (old new : Slotted D) (r : Request) (reply : EventReply) → Happens facts old new (apply r) reply → IsChange r → is_accepted reply → exchange_of (apply r) reply ≡ done r
  exchange_done old new r (event.Replied reply) happens change fine =
      ap (λ (a : Reply). let e : Exchange = answered (command r) a in e) (change_done r reply change happens.on_any_disk.answers fine)
  exchange_done old new r (event.Slot slot) happens change fine = absurd happens
  exchange_done old new r event.Going happens change fine = absurd happens

  exchanges_done : (requests : List Request) (replies : List EventReply) (passed : List (Slotted D)) (old : Slotted D) → Steps (EventStep facts) old (map apply requests) replies passed
      → All IsChange requests → All is_accepted replies → exchanges (map apply requests) replies ≡ map done requests
  exchanges_done [] [] [] old steps changes fine = refl
  exchanges_done [] (e ∷ replies) passed old steps changes fine = absurd steps
  exchanges_done [] [] (t ∷ passed) old steps changes fine = absurd steps
  exchanges_done (r ∷ requests) [] passed old steps changes fine = absurd steps
  exchanges_done (r ∷ requests) (e ∷ replies) [] old steps changes fine = absurd steps
  exchanges_done (r ∷ requests) (e ∷ replies) (t ∷ passed) old steps changes fine =
      ap (λ (x : Exchange). x ∷ exchanges (map apply requests) replies)
      (exchange_done old t r e steps.0.happens (All-head IsChange r requests changes) (All-head is_accepted e replies fine))
      ∙ ap (λ (xs : List Exchange). done r ∷ xs) (exchanges_done requests replies passed t steps.1 (All-tail IsChange r requests changes) (All-tail is_accepted e replies fine))

  module _ (s : State) (h : IsStateOfBytes s) where
    -- if no line of a dump is refused, the registry is at the copy after the lines
    pub lines_copied : (old new : Slotted D) (whole : List (List ℕ)) (cut : List ℕ) (answers : List Answer) → LinesRan facts old new whole answers
        → IsAt facts old.registry empty_state → dump_text s ≡ flat_map ended whole ++ cut → All IsLine whole → IsLine cut → count_by is_refused (answers ++ cut_answer cut) ≡ 0
        → IsAt facts new.registry (copy_of s)
    lines_copied old new whole cut answers ran at text lines rest none =
        let script = is_script s h in
        let only = script.only whole cut lines rest text in
        let asks : happenings whole ≡ map apply (requests_for s) = all_happen whole (requests_for s) (ap (map meaning) only.0 ∙ script.asked) in
        let uncut : answers ++ cut_answer cut ≡ answers = ap (λ c. answers ++ cut_answer c) only.1 ∙ append-nil answers in
        let steps = subst (λ hs. Steps (EventStep facts) old hs (replied answers) ran.passed) asks ran.steps in
        let each = exchanges_done (requests_for s) (replied answers) ran.passed old steps (all_change s) (none_counted answers (subst (λ l. count_by is_refused l ≡ 0) uncut none)) in
        copied facts s h.state.libraries old.registry new.registry at (map (λ (b : Slotted D). b.registry) ran.passed)
        (subst (RunsThrough facts old.registry (map (λ (b : Slotted D). b.registry) ran.passed) new.registry empty_state) (ap (λ hs. exchanges hs (replied answers)) asks ∙ each)
        (ran.runs empty_state at))

-- ---- statuses

not_greatest : (worst : Status) (f : ScriptFault) → status.Done ≡ greatest worst (fault_status f) → ⊥
not_greatest status.Done fault.OutOfMemory h = cc h
not_greatest status.Refused fault.OutOfMemory h = cc h
not_greatest status.BadWords fault.OutOfMemory h = cc h
not_greatest status.Failed fault.OutOfMemory h = cc h
not_greatest status.NoMemory fault.OutOfMemory h = cc h
not_greatest status.Done f h = cc h
not_greatest status.Refused f h = cc h
not_greatest status.BadWords f h = cc h
not_greatest status.Failed f h = cc h
not_greatest status.NoMemory f h = cc h

worse : (worst : Status) → status.Done ≡ greatest worst status.Refused → ⊥
worse status.Done h = cc h
worse status.Refused h = cc h
worse status.BadWords h = cc h
worse status.Failed h = cc h
worse status.NoMemory h = cc h

none_refused : (worst : Status) (n : ℕ) → status.Done ≡ greatest worst (lines_status n) → n ≡ 0
none_refused worst n h = by (n == 0) (eqb-true n 0) h
  where
    by : (b : Bool) → (b ≡ true → n ≡ 0) → status.Done ≡ greatest worst (if b then status.Done else status.Refused) → n ≡ 0
    by true is h = is refl
    by false is h = absurd (worse worst h)

unsaturated : (refused n : ℕ) → refused ≡ u64_saturate n → refused ≡ 0 → n ≡ 0
unsaturated refused n is zero = omega (arith, is, zero)

abbrev counted : Answer → ℕ
counted a = cond (is_refused a) 1 0

-- the answer to a cut line is a refusal
cut_counted : (answers : List Answer) → count_by is_refused (answers ++ answer.CutLine ∷ []) ≡ 0 → ⊥
cut_counted answers h = omega (arith, h, sum_by-append counted answers (answer.CutLine ∷ []), sum_by-cons counted answer.CutLine [])

not_told : {P : Type 0} (r : StoreRefusal) → ((status.Done ≡ disk_status r) × P) ⊎ (status.Done ≡ status.Failed) → ⊥
not_told r (inl told) = not_done r told.0
not_told r (inr failed) = cc failed

-- ---- the program

module _ {D : Type 0} (facts : D → DiskFacts) where
  module _ (s : State) (h : IsStateOfBytes s) where
    run_copied : (io : Streams) (old new : Slotted D) → io.unread ≡ Some (dump_text s) → IsAt facts old.registry empty_state → RunsOnDisk facts io old new status.Done
        → IsAt facts new.registry (copy_of s)
    run_copied io old new unread at run =
        let counts = run.5.counts.refused in
        lines_copied facts s h old new run.2 run.3 run.4 run.6 at (subst (λ o. IfSome o (λ text. text ≡ flat_map ended run.2 ++ run.3)) unread run.5.read) run.5.lines run.5.rest
        (unsaturated run.1.refused (count_by is_refused (run.4 ++ cut_answer run.3)) counts (none_refused run.0 run.1.refused run.7))

    pub program_copies : ((disk : D) → IsTrue (facts disk).honest → HoldsNow (facts disk)) → (disk left : D) (io : Streams)
        → IsTrue (facts disk).honest → Stands (facts disk).now empty_state → io.unread ≡ Some (dump_text s)
        → DiskScriptEnds facts disk io status.Done left → Stands (facts left).now (copy_of s)
    program_copies holds disk left io honest empty unread (inl scripted) =
        let old = scripted.old in
        let new = scripted.new in
        let at = ⊎_elim (run_copied io old new unread (scripted.opened.opened.stands honest empty_state empty)) (λ broke. absurd (not_greatest broke.0 broke.1 broke.7)) scripted.run in
        subst (λ (d : D). Stands (facts d).now (copy_of s)) (sym scripted.back)
        (mixture_stands facts new.registry (copy_of s) at (facts new.registry.disk).now (holds new.registry.disk at.stored.honest))
    program_copies holds disk left io honest empty unread (inr told) = absurd (not_told told.0 told.2)

  -- a script that was cut doesn't end with status 0
  pub cut_refused : (s : State) (k : ℕ) (disk left : D) (io : Streams) → io.unread ≡ Some (cut_text s k) → DiskScriptEnds facts disk io status.Done left → ⊥
  cut_refused s k disk left io unread (inl scripted) = ⊎_elim ran (λ broke. not_greatest broke.0 broke.1 broke.7) scripted.run
    where
      ran : RunsOnDisk facts io scripted.old scripted.new status.Done → ⊥
      ran run =
          let text = subst (λ o. IfSome o (λ text. text ≡ flat_map ended run.2 ++ run.3)) unread run.5.read in
          let cut = cut_ends s k run.2 run.3 run.5.lines run.5.rest text in
          cut_counted run.4
          (subst (λ c. count_by is_refused (run.4 ++ cut_answer c) ≡ 0) cut
          (unsaturated run.1.refused (count_by is_refused (run.4 ++ cut_answer run.3)) run.5.counts.refused (none_refused run.0 run.1.refused run.7)))
  cut_refused s k disk left io unread (inr told) = not_told told.0 told.2
