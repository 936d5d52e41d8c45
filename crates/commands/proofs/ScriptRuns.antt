-- A script over a registry on a disk is a run of the events of its lines.
use Rattle.std.proofs.Common.{◌≡◌, ℕ, List, [], ◌∷◌, Option, Some, None, refl, sym, subst}
use Rattle.std.specs.List.{filter_map}
use Rattle.sector_disk.specs.Disk.{DiskFacts}
use Rattle.requests.specs.Runs.{Steps, Run, last_of}
use Rattle.binders.specs.Events.{Happening}
use Rattle.binders.specs.EventsRan.{EventStep}
use Rattle.binders.specs.Slotted.{Slotted}
use Rattle.binders.proofs.Happening.{events_ran}
use Rattle.commands.specs.Answer.{LineStep}
use Rattle.commands.specs.DiskScript.{happenings, replied, LinesRan, FinishesOnDisk, StopsOnDisk}
use Rattle.commands.specs.Line.{meaning}
use Rattle.commands.specs.OnDisk.{Worsens, RunsOnDisk, BreaksOnDisk}
use Rattle.commands.specs.Script.{Streams, Finishes, Stops}
use Rattle.commands.specs.Status.{greatest, fault_status, lines_status}
use Rattle.commands.specs.declared.answer.Answer.{Answer}
use Rattle.commands.specs.declared.answer.Answer.TheVariants.{Replied, BadLine, CutLine}
use Rattle.scripts.specs.declared.fault.ScriptFault.{ScriptFault}
use Rattle.program_parts.specs.declared.status.Status.{Status}
use Rattle.program_parts.specs.declared.status.Status.TheVariants.{Done}
use Rattle.commands.specs.declared.summary.Summary.{Summary}
use Rattle.commands.proofs.Seen.{run_seen}

-- a line that asks for an event adds one event to the list, and any other line adds none
asks : {X Y : Type 0} (f : X → Option Y) (x : X) (xs : List X) (y : Y) → f x ≡ Some y → filter_map f (x ∷ xs) ≡ y ∷ filter_map f xs
asks f x xs y e = rw e refl

asks_none : {X Y : Type 0} (f : X → Option Y) (x : X) (xs : List X) → f x ≡ None → filter_map f (x ∷ xs) ≡ filter_map f xs
asks_none f x xs e = rw e refl

module _ {D : Type 0} (facts : D → DiskFacts) where
  -- the events of the lines happened, one after the other
  happened : (mid : Slotted D) (lines : List (List ℕ)) (answers : List Answer) (states : List (Slotted D))
      → Steps (LineStep (EventStep facts)) mid lines answers states → Run (EventStep facts) mid (happenings lines) (replied answers) (last_of mid states)
  happened mid [] [] [] h = ([], tt, refl)
  happened mid (line ∷ lines) (Replied reply ∷ answers) (t ∷ ts) h =
      let rest = happened t lines answers ts h.1 in
      subst (λ (l : List Happening). Run (EventStep facts) mid l (reply ∷ replied answers) (last_of t ts)) (sym (asks meaning line lines h.0.0 h.0.1))
      (t ∷ rest.0, (h.0.2, rest.1), rest.2)
  happened mid (line ∷ lines) (BadLine ∷ answers) (t ∷ ts) h =
      subst (λ (l : List Happening). Run (EventStep facts) mid l (replied answers) (last_of t ts)) (sym (asks_none meaning line lines h.0.0))
      (subst (λ (k : Slotted D). Run (EventStep facts) k (happenings lines) (replied answers) (last_of t ts)) h.0.1 (happened t lines answers ts h.1))
  happened mid (line ∷ lines) (CutLine ∷ answers) (t ∷ ts) h = absurd h.0
  happened mid [] [] (t ∷ ts) h = absurd h
  happened mid [] (y ∷ answers) ts h = absurd h
  happened mid (line ∷ lines) [] ts h = absurd h
  happened mid (line ∷ lines) (y ∷ answers) [] h = absurd h

  -- the events of the lines are a run
  pub lines_ran : (old new : Slotted D) (lines : List (List ℕ)) (answers : List Answer) → Run (LineStep (EventStep facts)) old lines answers new → LinesRan facts old new lines answers
  lines_ran old new lines answers run =
      events_ran facts old new (happenings lines) (replied answers)
      (subst (λ (k : Slotted D). Run (EventStep facts) old (happenings lines) (replied answers) k) (sym run.2) (happened old lines answers run.0 run.1))

  module _ (io : Streams) (old new : Slotted D) where
    -- if a script was read to its end, its events are a run
    pub finishes_on_disk : (summary : Summary) → Finishes (EventStep facts) io old new summary → FinishesOnDisk facts io old new summary
    finishes_on_disk summary h = (h.0, h.1, h.2, h.3, lines_ran old new h.0 h.2 h.3.run)

    -- if a script ended early, the events of the answered lines are a run
    pub stops_on_disk : (fault : ScriptFault) → Stops (EventStep facts) io old new fault → StopsOnDisk facts io old new fault
    stops_on_disk fault h = (h.0, h.1, h.2, h.3, lines_ran old new h.0 h.2 h.3.run)

module _ {D : Type 0} (facts : D → DiskFacts) (io : Streams) (old new : Slotted D) (worst status : Status) where
  -- if the greatest status is kept during a script, the events of its lines are still a run
  lines_seen : (lines : List (List ℕ)) (answers : List Answer) → Run (LineStep (Worsens (EventStep facts))) (old, Done) lines answers (new, worst) → LinesRan facts old new lines answers
  lines_seen lines answers run =
      lines_ran facts old new lines answers (run_seen (λ (p : Slotted D × Status). p.0) (Worsens (EventStep facts)) (EventStep facts) (λ s s' q r k. k.0) (old, Done) (new, worst) lines answers run)

  -- a script with a status, which was read to its end or ended early, is a run
  pub runs_on_disk : (summary : Summary) → Finishes (Worsens (EventStep facts)) io (old, Done) (new, worst) summary → status ≡ greatest worst (lines_status summary.refused)
      → RunsOnDisk facts io old new status
  runs_on_disk summary e is = (worst, summary, e.0, e.1, e.2, e.3, lines_seen e.0 e.2 e.3.run, is)

  pub breaks_on_disk : (fault : ScriptFault) → Stops (Worsens (EventStep facts)) io (old, Done) (new, worst) fault → status ≡ greatest worst (fault_status fault)
      → BreaksOnDisk facts io old new status
  breaks_on_disk fault e is = (worst, fault, e.0, e.1, e.2, e.3, lines_seen e.0 e.2 e.3.run, is)
