-- The end of a command on the disk that it gets: its effect on the disk, and the text that it
-- writes (own).
use Rattle.std.specs.Prelude.{◌≡◌, ◌⊎◌, ℕ, List, replicate, Option, None, Result, Ok, Err, IsTrue}
use Rattle.sector_disk.specs.Disk.{DiskFacts, Mixture, LeavesOnly}
use Rattle.requests.specs.Request.{Request}
use Rattle.requests.specs.declared.reply.Reply.{Reply}
use Rattle.states.specs.State.{State}
use Rattle.store.specs.Opened.{Opened, disk_after}
use Rattle.store.specs.Step.{answer_of}
use Rattle.store.specs.declared.refusal.StoreRefusal.{StoreRefusal}
use Rattle.registry.specs.Applied.{Applied, MayLeaveWithin}
use Rattle.registry.specs.Phase.{phase_of}
use Rattle.registry.specs.Stands.{Stands}
use Rattle.binders.specs.Events.{Happening}
use Rattle.binders.specs.EventsRan.{EventStep}
use Rattle.binders.specs.Slotted.{HoldAlone, Slotted}
use Rattle.binders.specs.declared.event.EventReply.{EventReply}
use Rattle.commands.specs.Disk.{disk_answer_text}
use Rattle.program_parts.specs.Refusal.{disk_refusal_text}
use Rattle.commands.specs.DiskScript.{LinesRan}
use Rattle.commands.specs.DiskStep.{DiskStep}
use Rattle.registry.specs.Opening.{EndsOpening, EndsMaking, EndsUpgrading}
use Rattle.program_parts.specs.Told.{IsTold}
use Rattle.program_parts.specs.Reply.{reply_text}
use Rattle.commands.specs.Script.{Streams, Ends, Breaks}
use Rattle.commands.specs.Status.{greatest, disk_answer_status, event_status, fault_status, lines_status}
use Rattle.program_parts.specs.Status.{reply_status, disk_status}
use Rattle.commands.specs.declared.answer.Answer.{Answer}
use Rattle.scripts.specs.declared.fault.ScriptFault.{ScriptFault}
use Rattle.program_parts.specs.declared.status.Status.{Status}
use Rattle.program_parts.specs.declared.status.Status.TheVariants.{Done}
use Rattle.commands.specs.declared.summary.Summary.{Summary}

-- The registry on a disk was opened, and a request was applied to it. `left` is the disk after the
-- request.
pub record IsAnswered {D : Type 0} (facts : D → DiskFacts) (disk : D) (request : Request) (reply : Reply) (left : D) : Type 0 where
  pub old : Opened D
  pub opened : EndsOpening facts disk (Ok old)
  pub new : Opened D
  pub step : DiskStep facts old request reply new
  -- If an honest disk holds a state, the answer is a step of the step table from this state. A stop
  -- at any moment leaves contents that a stop could leave before the opening, or contents that
  -- `MayLeaveWithin` allows.
  pub applied : IsTrue (facts disk).honest → (s : State) → Stands (facts disk).now s → (s' : State) × Applied facts old new s s' request reply
      × LeavesOnly (facts disk) (facts left) (λ m. Mixture (facts disk) m ⊎ MayLeaveWithin (phase_of facts old s) request reply s' m)
  pub back : left ≡ new.disk

-- a request was answered and exactly its reply was written, or the disk was refused and exactly the
-- refusal was written
abbrev pub RequestEnds : {D : Type 0} → (D → DiskFacts) → D → Request → Option (List ℕ) → Option (List ℕ) → Status → D → Type 0
RequestEnds facts disk request before after status left =
    ((reply : Reply) × IsAnswered facts disk request reply left × IsTold (reply_status reply) (reply_text reply) before after status)
    ⊎ ((refusal : StoreRefusal) × EndsOpening facts disk (Err (refusal, left)) × IsTold (disk_status refusal) (disk_refusal_text refusal) before after status)

-- an empty registry was made on the disk, or the disk was refused; `left` is the disk afterwards
abbrev pub FormatEnds : {D : Type 0} → (D → DiskFacts) → D → Result (Unit {0}) StoreRefusal → D → Type 0
FormatEnds facts disk answer left = (making : Result (Opened _) (StoreRefusal × _)) × EndsMaking facts disk making
    × (answer ≡ answer_of making) × (left ≡ disk_after making)

-- the registry was upgraded and exactly `ok` was written, or the disk was refused and exactly the
-- refusal was written
abbrev pub UpgradeEnds : {D : Type 0} → (D → DiskFacts) → D → Option (List ℕ) → Option (List ℕ) → Status → D → Type 0
UpgradeEnds facts disk before after status left = (upgrading : Result (Opened _) (StoreRefusal × _)) × EndsUpgrading facts disk upgrading
    × (left ≡ disk_after upgrading) × IsTold (disk_answer_status (answer_of upgrading)) (disk_answer_text (answer_of upgrading)) before after status

-- a step of a registry with binders, paired with the greatest status of a script's replies before and
-- after the step
abbrev pub Worsens : {S : Type 0} → (S → Happening → EventReply → S → Type 0) → S × Status → Happening → EventReply → S × Status → Type 0
Worsens step old happening reply new = step old.0 happening reply new.0 × (new.1 ≡ greatest old.1 (event_status reply))

module _ {D : Type 0} (facts : D → DiskFacts) (io : Streams) (old new : Slotted D) (status : Status) where
  -- A script was run to its end, and the events of its lines happened. The status is the greatest status
  -- of its replies, and at least 1 if one of them is a refusal.
  abbrev pub RunsOnDisk : Type 0
  RunsOnDisk = (worst : Status) × (summary : Summary) × (whole : List (List ℕ)) × (cut : List ℕ) × (answers : List Answer)
      × Ends (Worsens (EventStep facts)) io (old, Done) (new, worst) summary whole cut answers
      × LinesRan facts old new whole answers × (status ≡ greatest worst (lines_status summary.refused))

  -- A script ended early, and the events of the answered lines happened. The status is the greater
  -- of two: the greatest status of the replies, and the status of the fault that ended the script.
  abbrev pub BreaksOnDisk : Type 0
  BreaksOnDisk = (worst : Status) × (fault : ScriptFault) × (whole : List (List ℕ)) × (part : List ℕ) × (answers : List Answer)
      × Breaks (Worsens (EventStep facts)) io (old, Done) (new, worst) fault whole part answers
      × LinesRan facts old new whole answers × (status ≡ greatest worst (fault_status fault))

-- The registry on a disk was opened, without binders and without held byte strings, and then a
-- script was run over it. `left` is the disk after the script.
pub record IsScripted {D : Type 0} (facts : D → DiskFacts) (disk : D) (io : Streams) (status : Status) (left : D) : Type 0 where
  pub old : Slotted D
  pub opened : EndsOpening facts disk (Ok old.registry)
  pub empty : old.slots ≡ replicate 8 None
  pub alone : HoldAlone old
  pub new : Slotted D
  pub run : RunsOnDisk facts io old new status ⊎ BreaksOnDisk facts io old new status
  pub back : left ≡ new.registry.disk

-- a script was run over a disk, or the disk was refused and exactly the refusal was written
abbrev pub DiskScriptEnds : {D : Type 0} → (D → DiskFacts) → D → Streams → Status → D → Type 0
DiskScriptEnds facts disk io status left =
    IsScripted facts disk io status left
    ⊎ ((refusal : StoreRefusal) × EndsOpening facts disk (Err (refusal, left)) × IsTold (disk_status refusal) (disk_refusal_text refusal) io.before io.after status)
