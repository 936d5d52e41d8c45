-- The effect of a script on a registry with binders on a disk (own).
use Rattle.std.specs.Prelude.{ℕ, List, Option, Some, None}
use Rattle.std.specs.List.{filter_map}
use Rattle.sector_disk.specs.Disk.{DiskFacts}
use Rattle.binders.specs.Events.{Happening}
use Rattle.binders.specs.Slotted.{Slotted}
use Rattle.binders.specs.declared.event.EventReply.{EventReply}
use Rattle.binders.specs.EventsRan.{EventStep, EventsRan}
use Rattle.commands.specs.Line.{meaning}
use Rattle.commands.specs.Script.{Streams, Ends, Breaks}
use Rattle.commands.specs.declared.answer.Answer.{Answer}
use Rattle.commands.specs.declared.answer.Answer.TheVariants.{Replied}
use Rattle.scripts.specs.declared.fault.ScriptFault.{ScriptFault}
use Rattle.commands.specs.declared.summary.Summary.{Summary}

-- the events that lines request, in the order of the lines; a line that has none of the forms
-- requests no event
abbrev pub happenings : List (List ℕ) → List Happening
happenings lines = filter_map meaning lines

-- the reply to the event of a line, or none if the line requests no event
abbrev pub event_reply_of : Answer → Option EventReply
event_reply_of (Replied reply) = Some reply
event_reply_of answer = None

-- the replies to the events of lines, in the order of the lines
abbrev pub replied : List Answer → List EventReply
replied answers = filter_map event_reply_of answers

-- The events that the lines request happened over a disk, one after the other, with one reply for
-- each event. `EventsRan` also states which state a stop at any moment leaves.
abbrev pub LinesRan : {D : Type 0} → (D → DiskFacts) → Slotted D → Slotted D → List (List ℕ) → List Answer → Type 0
LinesRan facts old new lines answers = EventsRan facts old new (happenings lines) (replied answers)

-- a script over a registry on a disk was read to its end, and the events of its lines happened
abbrev pub FinishesOnDisk : {D : Type 0} → (D → DiskFacts) → Streams → Slotted D → Slotted D → Summary → Type 0
FinishesOnDisk facts io old new summary = (whole : List (List ℕ)) × (cut : List ℕ) × (answers : List Answer)
    × Ends (EventStep facts) io old new summary whole cut answers × LinesRan facts old new whole answers

-- a script ended early, and the events of the lines answered before its end happened
abbrev pub StopsOnDisk : {D : Type 0} → (D → DiskFacts) → Streams → Slotted D → Slotted D → ScriptFault → Type 0
StopsOnDisk facts io old new fault = (whole : List (List ℕ)) × (part : List ℕ) × (answers : List Answer)
    × Breaks (EventStep facts) io old new fault whole part answers × LinesRan facts old new whole answers
