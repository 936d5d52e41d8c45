-- The effects of one line of an update, and the ways in which a line ends the update.
use Rattle.std.specs.Prelude.{◌≡◌, ◌≢◌, ℕ, List, Option, Some, None, false}
use Rattle.std.specs.Io.KnownBytes.{Appends}
use Rattle.sector_disk.specs.Disk.{DiskFacts}
use Rattle.store.specs.Draft.{Drafted}
use Rattle.requests.specs.Request.{Request}
use Rattle.requests.specs.declared.reply.Reply.{Reply}
use Rattle.requests.specs.declared.reply.Reply.TheVariants as reply
use Rattle.scripts.specs.Asked.{request_meaning}
use Rattle.scripts.specs.Line.{ended}
use Rattle.scripts.specs.declared.fault.ScriptFault.{ScriptFault}
use Rattle.scripts.specs.declared.fault.ScriptFault.TheVariants.{Write}
use Rattle.registry.specs.Updating.{is_refusal}
use Rattle.updates.specs.Answer.{plan_text}
use Rattle.registry.specs.Updating.{DraftAnswers}
use Rattle.updates.specs.Lines.{BeginsWith, IsRefusedAt, LineStep, commit_line}
use Rattle.updates.specs.declared.answer.UpdateRefusal.TheVariants as refusal
use Rattle.updates.specs.declared.lines.Ending.{Ending}
use Rattle.updates.specs.declared.lines.Ending.TheVariants.{Commit, Refused}

module _ {D : Type 0} (facts : D → DiskFacts) where
  -- a line was answered, and not refused
  abbrev pub IsAccepted : Drafted D → List ℕ → Reply → Drafted D → Type 0
  IsAccepted old line answer new = LineStep facts old line answer new × (is_refusal answer ≡ false)

  -- The effects of a line's command. `waits` and `now` are the bytes that the writer has before and
  -- after the command, each followed by the buffered text. The command is answered; or it is
  -- refused, which ends the update, and nothing is written.
  abbrev pub AskedEnds : Drafted D → Drafted D → Request → Option (List ℕ) → Option (List ℕ) → Option Ending → Type 0
  AskedEnds old new request waits now None = (answer : Reply) × DraftAnswers facts old request answer new × (is_refusal answer ≡ false)
      × Appends waits now (plan_text answer)
  AskedEnds old new request waits now (Some (Refused (refusal.Refused why))) = DraftAnswers facts old request (reply.Refused why) new × (now ≡ waits)
  AskedEnds old new request waits now (Some ending) = ⊥

  -- the command was accepted, and then the writer failed
  abbrev pub MissesAsked : Drafted D → Drafted D → Request → ScriptFault → Type 0
  MissesAsked old new request fault = (fault ≡ Write) × (answer : Reply) × DraftAnswers facts old request answer new × (is_refusal answer ≡ false)

  -- the whole line `line` ends the update with the ending `ending`
  abbrev pub EndsLine : Drafted D → Drafted D → List ℕ → Ending → Type 0
  EndsLine old new line Commit = (line ≡ commit_line) × (new ≡ old)
  EndsLine old new line (Refused refusal.BadLine) = (line ≢ commit_line) × (request_meaning line ≡ None) × (new ≡ old)
  EndsLine old new line (Refused (refusal.Refused why)) = LineStep facts old line (reply.Refused why) new
  EndsLine old new line (Refused other) = ⊥

  -- The effects of one whole line. `waits` and `now` are the bytes that the writer has before and
  -- after the line, each followed by the buffered text. The line is answered; or it ends the
  -- update, and nothing is written.
  abbrev pub LineEnds : Drafted D → Drafted D → List ℕ → Option (List ℕ) → Option (List ℕ) → Option Ending → Type 0
  LineEnds old new line waits now None = (answer : Reply) × IsAccepted old line answer new × Appends waits now (plan_text answer)
  LineEnds old new line waits now (Some ending) = EndsLine old new line ending × (now ≡ waits)

  -- The effects of a line that wasn't answered. If the writer failed, the line was accepted before.
  -- Otherwise memory was refused, and the line changed nothing.
  abbrev pub MissesLine : Drafted D → Drafted D → List ℕ → Option (List ℕ) → Option (List ℕ) → ScriptFault → Type 0
  MissesLine old new line waits now Write = (answer : Reply) × IsAccepted old line answer new
  MissesLine old new line waits now fault = (new ≡ old) × (now ≡ waits)

  -- the answered lines were ended by `commit` or by a refusal
  abbrev pub EndsLines : Option (List ℕ) → List (List ℕ) → Drafted D → Drafted D → Ending → Type 0
  EndsLines unread lines old new Commit = (new ≡ old) × BeginsWith unread lines (ended commit_line)
  EndsLines unread lines old new (Refused why) = IsRefusedAt facts unread lines old new why
