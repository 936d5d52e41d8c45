-- The effect of an update with the lines of a dump on a new registry (own).
use Rattle.std.specs.Prelude.{◌≡◌, ◌⊎◌, ◌<◌, ◌++◌, ℕ, List, [], ◌∷◌, All}
use Rattle.sector_disk.specs.Disk.{DiskFacts, Mixture, LeavesOnly}
use Rattle.states.specs.State.{State, empty_state}
use Rattle.store.specs.declared.refusal.StoreRefusal.{StoreRefusal}
use Rattle.store.specs.declared.refusal.StoreRefusal.TheVariants as store
use Rattle.requests.specs.Phase.{Phase}
use Rattle.requests.specs.Request.{Request}
use Rattle.requests.specs.declared.refusal.Refusal.{Refusal}
use Rattle.requests.specs.declared.refusal.Refusal.TheVariants.{Full, Fragmented}
use Rattle.requests.specs.declared.reply.Reply.{Reply}
use Rattle.requests.specs.declared.reply.Reply.TheVariants.{Done, Refused}
use Rattle.registry.specs.Stands.{Stands}
use Rattle.registry.specs.Updating.{drafted_by}
use Rattle.program_parts.specs.Reply.{command_refusal_text}
use Rattle.program_parts.specs.Status.{disk_status, refusal_status}
use Rattle.program_parts.specs.Streams.{Streams}
use Rattle.program_parts.specs.declared.status.Status.{Status}
use Rattle.scripts.specs.declared.fault.ScriptFault.{ScriptFault}
use Rattle.tool_parts.specs.Said.{refusal_line}
use Rattle.tool_parts.specs.Streams.{Says, Tells}
use Rattle.updates.specs.Answer.{plan_texts}
use Rattle.updates.specs.Said.{fault_line}
use Rattle.updates.specs.Status.{fault_status}
use Rattle.program_parts.specs.Streams.{Streams}
use Rattle.updates.specs.Streams.{CannotWrite, SaysOnly, outputs_of}
use Rattle.replays.specs.Replay.{IsFault, requests_for, sectors_for}

-- the state of the phase is the one to which the requests `front` lead in a draft of an empty
-- registry
abbrev pub IsDraftBehind : List Request → Phase → Type 0
IsDraftBehind front p = p.state ≡ drafted_by empty_state front

-- the number of changes that an update with these requests makes: one if there are requests, and
-- none otherwise
abbrev pub changes_by : List Request → ℕ
changes_by [] = 0
changes_by (request ∷ requests) = 1

-- the state with the same libraries and preloads; its generation is the number of changes that an
-- update makes to reach it
abbrev pub renewed : State → State
renewed s = record { generation = changes_by (requests_for s); libraries = s.libraries; preloads = s.preloads }

-- a stop at any moment leaves contents that a stop could leave before, an empty registry, or the
-- whole state
abbrev pub LeavesAllOrNothing : {D : Type 0} → (D → DiskFacts) → State → D → D → Type 0
LeavesAllOrNothing facts s disk left = LeavesOnly (facts disk) (facts left) (λ m. Mixture (facts disk) m ⊎ (Stands m empty_state ⊎ Stands m (renewed s)))

-- `refusal` may refuse a line or the commit on a disk of `sectors` sectors. S7 is possible only if
-- `sectors` is too small for the state. S8, S1, S2 and S11 are possible on any disk.
abbrev pub IsHindrance : State → (sectors : ℕ) → Refusal → Type 0
IsHindrance s sectors Full = sectors < sectors_for s
IsHindrance s sectors Fragmented = Unit {0}
IsHindrance s sectors refusal = IsFault (Refused refusal)

module _ (s : State) (sectors : ℕ) (io : Streams) (ends : Status) where
  -- after lines that were all planned, a refusal that `IsHindrance` allows was reported
  abbrev pub IsRefusedOnTheWay : Type 0
  IsRefusedOnTheWay = (answers : List Reply) × All (λ answer. answer ≡ Done) answers × (why : Refusal) × IsHindrance s sectors why
      × (ends ≡ refusal_status why) × Tells (outputs_of io) (plan_texts answers ++ command_refusal_text why)

  -- after lines that were all planned, the input failed or memory was refused, and a message
  -- reports this
  abbrev pub IsBrokenOnTheWay : Type 0
  IsBrokenOnTheWay = (answers : List Reply) × All (λ answer. answer ≡ Done) answers × (fault : ScriptFault)
      × (ends ≡ fault_status fault) × Tells (outputs_of io) (plan_texts answers) × Says (outputs_of io) (fault_line fault)

  -- the disk failed during its opening, or memory was refused, and a message reports this
  abbrev pub IsNotOpened : Type 0
  IsNotOpened = (why : StoreRefusal) × ((why ≡ store.Device) ⊎ (why ≡ store.OutOfMemory)) × SaysOnly (disk_status why) (refusal_line why) io ends

  -- An update with the lines of a dump failed because of its output, lack of room, the disk, its
  -- input, or refused memory.
  abbrev pub IsHindered : Type 0
  IsHindered = CannotWrite io ends ⊎ (IsRefusedOnTheWay ⊎ (IsBrokenOnTheWay ⊎ IsNotOpened))
