-- The end of an update that has begun, on any disk.
use Rattle.std.specs.Prelude.{◌≡◌, ◌⊎◌, ◌++◌, ℕ, List, Option, Result}
use Rattle.std.specs.Io.{StopsAt}
use Rattle.std.specs.Io.KnownBytes.{Appends}
use Rattle.sector_disk.specs.Disk.{DiskFacts}
use Rattle.store.specs.Draft.{Drafted}
use Rattle.store.specs.Opened.{Opened}
use Rattle.requests.specs.Step.{answer_of}
use Rattle.requests.specs.declared.refusal.Refusal.{Refusal}
use Rattle.requests.specs.declared.reply.Reply.{Reply}
use Rattle.program_parts.specs.Reply.{reply_text}
use Rattle.program_parts.specs.Status.{reply_status}
use Rattle.program_parts.specs.declared.status.Status.{Status}
use Rattle.scripts.specs.Line.{ended}
use Rattle.scripts.specs.declared.fault.ScriptFault.{ScriptFault}
use Rattle.updates.specs.Answer.{plan_texts, update_refusal_text}
use Rattle.updates.specs.Commit.{Commits}
use Rattle.updates.specs.Lines.{ArePlanned, BeginsWith, IsRefusedAt, commit_line}
use Rattle.updates.specs.Status.{update_status}
use Rattle.program_parts.specs.Streams.{Streams}
use Rattle.updates.specs.Streams.{BreaksOff, TellsOnly}
use Rattle.updates.specs.declared.answer.UpdateRefusal.{UpdateRefusal}

module _ {D O : Type 0} (facts : D → DiskFacts) (contents : O → Option (List ℕ)) where
  module _ (io : Streams) (lines : List (List ℕ)) (answers : List Reply) (u : Drafted D) (status : Status) (new : Opened D) where
    -- after the planned lines came `commit`
    abbrev pub IsCommitted : Type 0
    IsCommitted = (held : O) × (answer : Result (Unit {0}) Refusal) × BeginsWith io.unread lines (ended commit_line)
        × Appends io.before (contents held) (plan_texts answers) × Commits facts u answer new
        × TellsOnly (reply_status (answer_of answer)) (plan_texts answers ++ reply_text (answer_of answer)) io status

    -- after the lines came a refusal
    abbrev pub IsRefused : Type 0
    IsRefused = (refusal : UpdateRefusal) × (last : Drafted D) × IsRefusedAt facts io.unread lines u last refusal × (new ≡ last.store)
        × TellsOnly (update_status refusal) (plan_texts answers ++ update_refusal_text refusal) io status

    -- after the lines came a fault
    abbrev pub IsBroken : Type 0
    IsBroken = (fault : ScriptFault) × (part : List ℕ) × StopsAt part 10 × BeginsWith io.unread lines part × (new ≡ u.store)
        × BreaksOff fault (plan_texts answers) io status

  -- Lines were answered and changed the draft, and then `commit`, a refusal or a fault ended them.
  abbrev pub EndsBegun : Drafted D → Streams → Status → Opened D → Type 0
  EndsBegun old io status new = (lines : List (List ℕ)) × (answers : List Reply) × (u : Drafted D) × ArePlanned facts old u lines answers
      × (IsCommitted io lines answers u status new ⊎ (IsRefused io lines answers u status new ⊎ IsBroken io lines answers u status new))
