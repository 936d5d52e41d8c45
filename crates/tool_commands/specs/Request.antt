-- The effect of a command on a registry that was opened without reading a library's file, and the
-- ends of the form (own).
use Rattle.std.specs.Prelude.{◌≡◌, ◌≢◌, ◌⊎◌, Ok, Err, IsTrue}
use Rattle.sector_disk.specs.Disk.{DiskFacts, Mixture, LeavesOnly, AreCallsExactly}
use Rattle.states.specs.State.{State}
use Rattle.store.specs.Opened.{Opened}
use Rattle.store.specs.Opened as store
use Rattle.store.specs.Opens.{OpensByEntries}
use Rattle.store.specs.Stands as sectors
use Rattle.store.specs.declared.refusal.StoreRefusal.{StoreRefusal}
use Rattle.requests.specs.Request.{Request, bind, list}
use Rattle.requests.specs.declared.refusal.Refusal.{Refusal}
use Rattle.requests.specs.declared.refusal.Refusal.TheVariants.{Device}
use Rattle.requests.specs.declared.reply.Reply.{Reply}
use Rattle.requests.specs.declared.reply.Reply.TheVariants as reply
use Rattle.registry.specs.Answered.{Answered}
use Rattle.registry.specs.Applied.{Applies, MayLeaveBy}
use Rattle.registry.specs.Calls.{IfAccepted, calls_of}
use Rattle.registry.specs.Opened.{IsAt}
use Rattle.registry.specs.Phase.{phase_of}
use Rattle.registry.specs.Untested.{AppliedUntested, AppliesUntested}
use Rattle.program_parts.specs.Status.{disk_status}
use Rattle.program_parts.specs.declared.status.Status.{Status}
use Rattle.tool_parts.specs.Said.{refusal_line}
use Rattle.tool_parts.specs.Streams.{Streams, SaysOnly}
use Rattle.tool_commands.specs.Telling.{TellsReply}
use Rattle.tool_commands.specs.declared.telling.Telling.{Telling}

-- A registry that was opened without reading a library's file answered a command. `old` and `new`
-- are the registry before and after the command.
pub record DiskStep {D : Type 0} (facts : D → DiskFacts) (old : Opened D) (request : Request) (answer : Reply) (new : Opened D) : Type 0 where
  -- even if the byte strings aren't libraries, a change and a listing are steps of the step table
  pub untested : (s : State) → store.IsAt facts old s → AppliesUntested facts old new s request answer
  -- if all files are libraries, every command is a step of the step table
  pub applied : (s : State) → IsAt facts old s → Applies facts old new s request answer
  -- an accepted command makes exactly the calls of the disk that `calls_of` defines
  pub all_calls : (s : State) → store.IsAt facts old s → IfAccepted answer (AreCallsExactly (calls_of s request) (facts old.disk) (facts new.disk))
  -- the meaning of the answer on any disk, honest or not
  pub on_any_disk : Answered facts old new request answer

-- the request is for a change: it is neither a bind nor a listing
abbrev pub IsChange : Request → Type 0
IsChange (bind program base) = ⊥
IsChange list = ⊥
IsChange request = Unit {0}

-- The registry on a disk with any named byte strings was opened, and a command was applied to it.
-- `left` is the disk afterwards.
pub record IsAnswered {D : Type 0} (facts : D → DiskFacts) (disk : D) (request : Request) (answer : Reply) (left : D) : Type 0 where
  pub old : Opened D
  -- the opening of the disk read no library's file
  pub opened : OpensByEntries facts disk (Ok old)
  pub new : Opened D
  pub step : DiskStep facts old request answer new
  -- A stop at any moment leaves contents that a stop could leave before the opening, or the byte
  -- strings before or after the command. If a call failed within an accepted command, a stop may
  -- also leave the byte strings that the command would have made.
  pub any_moment : IsTrue (facts disk).honest → (s : State) → sectors.Stands (facts disk).now s → (s' : State) × AppliedUntested facts old new s s' request answer
      × LeavesOnly (facts disk) (facts left) (λ m. Mixture (facts disk) m ⊎ MayLeaveBy sectors.Stands (phase_of facts old s) request answer s' m)
  -- a change that was refused for a reason other than a failed call wrote nothing
  pub unwritten : IsTrue (facts disk).honest → IsChange request → (refusal : Refusal) → answer ≡ reply.Refused refusal → refusal ≢ Device
      → LeavesOnly (facts disk) (facts left) (Mixture (facts disk)) × ((facts left).now ≡ (facts disk).now)
  pub back : left ≡ new.disk

-- a command was answered, and exactly its reply was written; or standard error reports why the disk
-- was refused; `left` is the disk afterwards
abbrev pub RequestEnds : {D : Type 0} → (D → DiskFacts) → D → Request → Telling → Streams → Status → D → Type 0
RequestEnds facts disk request telling io status left =
    ((answer : Reply) × IsAnswered facts disk request answer left × TellsReply telling answer io status)
    ⊎ ((refusal : StoreRefusal) × OpensByEntries facts disk (Err (refusal, left)) × SaysOnly (disk_status refusal) (refusal_line refusal) io status)
