-- The end of an update's lines: the bytes that were read, the text that was written, and the draft.
use Rattle.std.specs.Prelude.{◌≡◌, ◌≢◌, ℕ, List, Option}
use Rattle.std.specs.Io.{StopsAt}
use Rattle.std.specs.Io.KnownBytes.{Appends}
use Rattle.sector_disk.specs.Disk.{DiskFacts}
use Rattle.store.specs.Draft.{Drafted}
use Rattle.requests.specs.declared.reply.Reply.{Reply}
use Rattle.scripts.specs.declared.fault.ScriptFault.{ScriptFault}
use Rattle.scripts.specs.declared.fault.ScriptFault.TheVariants.{Write}
use Rattle.updates.specs.Answer.{plan_texts}
use Rattle.updates.specs.Lines.{ArePlanned, BeginsWith}
use Rattle.updates.specs.declared.lines.Ending.{Ending}
use Rattle.updates.specs.inside.Line.{EndsLines}

module _ {D : Type 0} (facts : D → DiskFacts) where
  -- Lines were answered and changed the draft, and then `ending` ended them. Exactly the answers were
  -- written.
  abbrev pub Ended : (unread before now : Option (List ℕ)) → Drafted D → Drafted D → Ending → Type 0
  Ended unread before now old new ending = (lines : List (List ℕ)) × (answers : List Reply) × (mid : Drafted D) × ArePlanned facts old mid lines answers
      × EndsLines facts unread lines mid new ending × Appends before now (plan_texts answers)

  -- Lines were answered, and then a fault ended them. At most one more line was read, and that line
  -- wasn't answered. Exactly the answers were written, unless the output failed.
  abbrev pub Broken : (unread before now : Option (List ℕ)) → Drafted D → Drafted D → ScriptFault → Type 0
  Broken unread before now old new fault = (lines : List (List ℕ)) × (answers : List Reply) × (part : List ℕ) × ArePlanned facts old new lines answers × StopsAt part 10
      × BeginsWith unread lines part × (fault ≢ Write → Appends before now (plan_texts answers))

  -- Lines were answered, and then `commit` or a refusal ended them, but the output failed before all
  -- answers were written.
  abbrev pub Unsent : (unread : Option (List ℕ)) → Drafted D → Drafted D → ScriptFault → Type 0
  Unsent unread old new fault = (fault ≡ Write) × (lines : List (List ℕ)) × (answers : List Reply) × (mid : Drafted D) × (ending : Ending)
      × ArePlanned facts old mid lines answers × EndsLines facts unread lines mid new ending
