-- Lemmas about the lines of an update, until something ends them.
use Rattle.std.proofs.Common.{◌≡◌, ◌≢◌, ◌<◌, ℕ, List, [], ◌∷◌, ◌++◌, length, Option, Some, None, refl, sym, subst}
use Rattle.std.specs.Io.KnownBytes.{Appends, Consumes}
use Rattle.std.specs.List.{flat_map}
use Rattle.std.proofs.KnownBytes.{Appends-nil, Consumes-nil}
use Rattle.std.proofs.lemmas.List.Elements.{All-nil}
use Rattle.sector_disk.specs.Disk.{DiskFacts}
use Rattle.store.specs.Draft.{Drafted}
use Rattle.requests.specs.declared.reply.Reply.{Reply}
use Rattle.scripts.specs.Line.{IsLine, ended}
use Rattle.scripts.specs.Reading.{IsAll, Unread}
use Rattle.scripts.specs.declared.fault.ScriptFault.{ScriptFault}
use Rattle.scripts.specs.declared.fault.ScriptFault.TheVariants.{Read, Write, OutOfMemory}
use Rattle.scripts.proofs.Lines.{stops_ended}
use Rattle.updates.specs.Answer.{plan_texts}
use Rattle.updates.specs.Lines.{ArePlanned, BeginsWith}
use Rattle.updates.specs.declared.answer.UpdateRefusal.TheVariants as refusal
use Rattle.updates.specs.declared.lines.Ending.{Ending}
use Rattle.updates.specs.declared.lines.Ending.TheVariants.{Commit, Refused}
use Rattle.updates.specs.inside.Line.{EndsLine, EndsLines, LineEnds, MissesLine}
use Rattle.updates.specs.inside.Lines.{Broken, Ended}
use Rattle.updates.proofs.Planned.{begins, just, planned_more, planned_none, read_more}
use Rattle.updates.proofs.Texts.{texts_kept, texts_more}

module _ {D : Type 0} (facts : D → DiskFacts) where
  -- Lines were read and answered, and their answers were written. `rest` is left of the bytes `unread`,
  -- and `now` is the text `before` followed by the answers.
  abbrev pub Answered : (unread rest : Option (List ℕ)) (before now : Option (List ℕ)) → Drafted D → Drafted D → Type 0
  Answered unread rest before now old u = (lines : List (List ℕ)) × (answers : List Reply) × Consumes unread rest (flat_map ended lines) × ArePlanned facts old u lines answers
      × Appends before now (plan_texts answers)

  pub answered_none : (unread before : Option (List ℕ)) (u : Drafted D) → Answered unread unread before before u u
  answered_none unread before u = ([], [], Consumes-nil unread, planned_none facts u, Appends-nil before)

  module _ (unread rest before held : Option (List ℕ)) (old u : Drafted D) (so : Answered unread rest before held old u) where
    -- if a read failed, a fault ended the lines
    pub broken_reading : (rest' held' : Option (List ℕ)) (part : List ℕ) (fault : ScriptFault) → Unread rest rest' held held' part fault → Broken facts unread before held' old u fault
    broken_reading rest' held' part Write h = (so.0, so.1, [], so.3, All-nil (λ b. b ≢ 10), begins unread rest so.0 so.2 rest [] (Consumes-nil rest), λ is. absurd (is refl))
    broken_reading rest' held' part Read h = (so.0, so.1, part, so.3, h.1, begins unread rest so.0 so.2 rest' part h.0, λ _. texts_kept before held held' (plan_texts so.1) so.4 h.2)
    broken_reading rest' held' part OutOfMemory h = (so.0, so.1, part, so.3, h.1, begins unread rest so.0 so.2 rest' part h.0, λ _. texts_kept before held held' (plan_texts so.1) so.4 h.2)

    -- if no more lines can be read, a fault ended the lines
    pub broken_here : Broken facts unread before held old u Read
    broken_here = (so.0, so.1, [], so.3, All-nil (λ b. b ≢ 10), begins unread rest so.0 so.2 rest [] (Consumes-nil rest), λ _. so.4)

    -- if the input ended, L3 ended the lines
    pub ended_here : (held' : Option (List ℕ)) → IsAll rest [] → Appends held held' [] → Ended facts unread before held' old u (Refused refusal.NoCommit)
    ended_here held' all kept = (so.0, so.1, u, so.3, (refl, just unread rest so.0 so.2 [] all), texts_kept before held held' (plan_texts so.1) so.4 kept)

    -- if a line without a newline came, L2 ended the lines
    pub ended_cut : (held' : Option (List ℕ)) (cut : List ℕ) → IsAll rest cut → IsLine cut → 0 < length cut → Appends held held' [] → Ended facts unread before held' old u (Refused refusal.CutLine)
    ended_cut held' cut all is_line some kept = (so.0, so.1, u, so.3, (refl, cut, is_line, some, just unread rest so.0 so.2 cut all), texts_kept before held held' (plan_texts so.1) so.4 kept)

    module _ (rest' mid : Option (List ℕ)) (line : List ℕ) (read : Consumes rest rest' (ended line)) (is_line : IsLine line) (kept : Appends held mid []) where
      reaches : Appends before mid (plan_texts so.1)
      reaches = texts_kept before held mid (plan_texts so.1) so.4 kept

      stands_behind : BeginsWith unread so.0 (ended line)
      stands_behind = begins unread rest so.0 so.2 rest' (ended line) read

      -- if a whole line ended the update, it ended the lines
      ends_line : (new : Drafted D) (ending : Ending) → EndsLine facts u new line ending → EndsLines facts unread so.0 u new ending
      ends_line new Commit h = (h.1, subst (λ (l : List ℕ). BeginsWith unread so.0 (ended l)) h.0 stands_behind)
      ends_line new (Refused refusal.BadLine) h = (h.2, line, is_line, h.0, h.1, stands_behind)
      ends_line new (Refused (refusal.Refused why)) h = (line, is_line, h, stands_behind)
      ends_line new (Refused refusal.CutLine) h = absurd h
      ends_line new (Refused refusal.NoCommit) h = absurd h

      pub ended_line : (new : Drafted D) (now : Option (List ℕ)) (ending : Ending) → LineEnds facts u new line mid now (Some ending) → Ended facts unread before now old new ending
      ended_line new now ending h = (so.0, so.1, u, so.3, ends_line new ending h.0, subst (λ (k : Option (List ℕ)). Appends before k (plan_texts so.1)) (sym h.1) reaches)

      -- if one more line was answered, all lines up to it were answered
      pub answered_line : (new : Drafted D) (now : Option (List ℕ)) → LineEnds facts u new line mid now None → Answered unread rest' before now old new
      answered_line new now h = (
        so.0 ++ line ∷ [],
        so.1 ++ h.0 ∷ [],
        read_more unread rest so.0 so.2 rest' line read,
        planned_more facts old u new so.0 so.1 line h.0 so.3 is_line h.1.0 h.1.1,
        texts_more before mid now so.1 h.0 reaches h.2,
      )

      -- if the line couldn't be answered, or its answer couldn't be written, a fault ended the lines
      unanswered : (new : Drafted D) (now : Option (List ℕ)) → new ≡ u → now ≡ mid → (fault : ScriptFault) → Broken facts unread before now old new fault
      unanswered new now same is fault = (
        so.0,
        so.1,
        ended line,
        subst (λ (v : Drafted D). ArePlanned facts old v so.0 so.1) (sym same) so.3,
        stops_ended line is_line,
        stands_behind,
        λ _. subst (λ (k : Option (List ℕ)). Appends before k (plan_texts so.1)) (sym is) reaches,
      )

      pub broken_line : (new : Drafted D) (now : Option (List ℕ)) (fault : ScriptFault) → MissesLine facts u new line mid now fault → Broken facts unread before now old new fault
      broken_line new now Write h = (
        so.0 ++ line ∷ [],
        so.1 ++ h.0 ∷ [],
        [],
        planned_more facts old u new so.0 so.1 line h.0 so.3 is_line h.1.0 h.1.1,
        All-nil (λ b. b ≢ 10),
        begins unread rest' (so.0 ++ line ∷ []) (read_more unread rest so.0 so.2 rest' line read) rest' [] (Consumes-nil rest'),
        λ is. absurd (is refl),
      )
      broken_line new now Read h = unanswered new now h.0 h.1 Read
      broken_line new now OutOfMemory h = unanswered new now h.0 h.1 OutOfMemory
