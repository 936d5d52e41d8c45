-- Lemmas about a script over a value of which only a part is observed.
use Rattle.std.proofs.Common.{◌≡◌, ℕ, List, [], ◌∷◌, map, ap, refl, subst, ◌∙◌}
use Rattle.requests.specs.Runs.{last_of, Steps, Run}
use Rattle.binders.specs.Events.{Happening}
use Rattle.binders.specs.declared.event.EventReply.{EventReply}
use Rattle.commands.specs.Answer.{LineStep}
use Rattle.commands.specs.OnDisk.{Worsens}
use Rattle.program_parts.specs.declared.status.Status.{Status}
use Rattle.program_parts.specs.declared.status.Status.TheVariants.{Done}
use Rattle.commands.specs.Script.{Streams, Finishes, Stops}
use Rattle.commands.specs.declared.answer.Answer.{Answer}
use Rattle.commands.specs.declared.answer.Answer.TheVariants.{Replied, BadLine, CutLine}
use Rattle.scripts.specs.declared.fault.ScriptFault.{ScriptFault}
use Rattle.commands.specs.declared.summary.Summary.{Summary}
use Rattle.commands.specs.declared.watched.Watched.{Watched}
use Rattle.commands.specs.inside.Watched.{WatchedStep}

module _ {S T : Type 0} (f : S → T) (step : S → Happening → EventReply → S → Type 0) (seen : T → Happening → EventReply → T → Type 0)
    (keeps : (s s' : S) (q : Happening) (r : EventReply) → step s q r s' → seen (f s) q r (f s')) where
  line_seen : (s s' : S) (line : List ℕ) (answer : Answer) → LineStep step s line answer s' → LineStep seen (f s) line answer (f s')
  line_seen s s' line (Replied reply) h = (h.0, h.1, keeps s s' h.0 reply h.2)
  line_seen s s' line BadLine h = (h.0, ap f h.1)
  line_seen s s' line CutLine h = absurd h

  steps_seen : (s : S) (lines : List (List ℕ)) (answers : List Answer) (states : List S) → Steps (LineStep step) s lines answers states → Steps (LineStep seen) (f s) lines answers (map f states)
  steps_seen s [] [] [] h = tt
  steps_seen s (q ∷ qs) (r ∷ rs) (t ∷ ts) h = (line_seen s t q r h.0, steps_seen t qs rs ts h.1)
  steps_seen s [] [] (t ∷ ts) h = absurd h
  steps_seen s [] (r ∷ rs) ts h = absurd h
  steps_seen s (q ∷ qs) [] ts h = absurd h
  steps_seen s (q ∷ qs) (r ∷ rs) [] h = absurd h

  last_seen : (s : S) (states : List S) → f (last_of s states) ≡ last_of (f s) (map f states)
  last_seen s [] = refl
  last_seen s (t ∷ ts) = last_seen t ts

  pub run_seen : (s s' : S) (lines : List (List ℕ)) (answers : List Answer) → Run (LineStep step) s lines answers s' → Run (LineStep seen) (f s) lines answers (f s')
  run_seen s s' lines answers h = (map f h.0, steps_seen s lines answers h.0 h.1, ap f h.2 ∙ last_seen s h.0)

  pub finishes_seen : (io : Streams) (s s' : S) (summary : Summary) → Finishes step io s s' summary → Finishes seen io (f s) (f s') summary
  finishes_seen io s s' summary h =
      let e = h.3 in (
        h.0,
        h.1,
        h.2,
        record {
          read = e.read;
          lines = e.lines;
          rest = e.rest;
          run = run_seen s s' h.0 h.2 e.run;
          written = e.written;
          counts = e.counts;
        },
      )

  pub stops_seen : (io : Streams) (s s' : S) (fault : ScriptFault) → Stops step io s s' fault → Stops seen io (f s) (f s') fault
  stops_seen io s s' fault h =
      let e = h.3 in (
        h.0,
        h.1,
        h.2,
        record {
          read = e.read;
          lines = e.lines;
          one_at_most = e.one_at_most;
          run = run_seen s s' h.0 h.2 e.run;
          written = e.written;
        },
      )

module _ {G : Type 0} (step : G → Happening → EventReply → G → Type 0) (io : Streams) (w w' : Watched G) where
  -- the observed part of a watched value: its registry and the greatest status
  abbrev seen_of : Watched G → G × Status
  seen_of v = (v.binders, v.worst)

  -- a script that starts with the status Done is a script over the observed part, if it is read to its
  -- end or ends early
  pub runs_through : (summary : Summary) → w.worst ≡ Done → Finishes (WatchedStep step) io w w' summary → Finishes (Worsens step) io (w.binders, Done) (seen_of w') summary
  runs_through summary e h =
      subst (λ s. Finishes (Worsens step) io (w.binders, s) (seen_of w') summary) e (finishes_seen seen_of (WatchedStep step) (Worsens step) (λ s s' q r k. k) io w w' summary h)

  pub ends_early : (fault : ScriptFault) → w.worst ≡ Done → Stops (WatchedStep step) io w w' fault → Stops (Worsens step) io (w.binders, Done) (seen_of w') fault
  ends_early fault e h =
      subst (λ s. Stops (Worsens step) io (w.binders, s) (seen_of w') fault) e (stops_seen seen_of (WatchedStep step) (Worsens step) (λ s s' q r k. k) io w w' fault h)
