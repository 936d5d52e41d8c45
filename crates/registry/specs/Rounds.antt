-- The effect of rounds of commands on a disk in memory that is stopped after each round (own).
use Rattle.std.specs.Prelude.{◌≡◌, ◌⊎◌, ◌<◌, ◌%◌, ℕ, true, List, [], length, map, slice_index}
use Rattle.sector_disk.specs.declared.memory.Memory.{Memory}
use Rattle.sector_disk.specs.declared.fuse.Fuse.{Fuse}
use Rattle.sector_disk.specs.Disk.{Sector, sector, DiskFacts, Mixture, LeavesOnly, IsSameDisk, IsStopped, AreCalls, AreCallsExactly}
use Rattle.sector_disk.specs.Memory.{memory_facts, memory_choices, HasOneChoice}
use Rattle.sector_disk.specs.Fuse.{fuse_facts, inner_of, plan_of}
use Rattle.store.specs.Opened.{Opened}
use Rattle.store.specs.declared.refusal.StoreRefusal.{StoreRefusal}
use Rattle.store.specs.declared.refusal.StoreRefusal.TheVariants.{Device, OutOfMemory}
use Rattle.states.specs.State.{State}
use Rattle.requests.specs.Request.{Request, request_of}
use Rattle.requests.specs.declared.reply.Reply.{Reply}
use Rattle.registry.specs.declared.rounds.Round.{Round}
use Rattle.registry.specs.declared.rounds.RoundReplies.{RoundReplies}
use Rattle.registry.specs.declared.rounds.RoundReplies.TheVariants.{Ran, NotRun}
use Rattle.registry.specs.Stands.{Stands}
use Rattle.registry.specs.Opened.{IsAt}
use Rattle.registry.specs.Opening.{opening_calls}
use Rattle.registry.specs.Ran.{RunsOver}
use Rattle.registry.specs.Acknowledged.{Transaction, commanded, AreAccepted, state_after}

-- every mixture that a stop of the disk may leave holds state s
abbrev pub AlwaysStands : Memory → State → Type 0
AlwaysStands disk s = (m : List Sector) → Mixture (memory_facts disk) m → Stands m s

-- a disk in memory between two rounds, and the state that it holds
pub record Standing : Type 0 where
  pub disk : Memory
  pub state : State

-- the pair of a disk and its state
abbrev pub standing : Memory → State → Standing
standing disk s = record { disk = disk; state = s }

-- the facts of a disk in memory with a fuse
abbrev pub fused_memory : Fuse Memory → DiskFacts
fused_memory = fuse_facts memory_facts

-- the requests of a round
abbrev pub asked : Round → List Request
asked round = map request_of round.commands.items

-- `fuse` is new, and has the disk `disk` under it. Call number `cut` of the round and all later
-- calls fail. If the round's `late` is true, call number `cut` reaches the disk before it fails.
pub record IsFused (disk : Memory) (round : Round) (fuse : Fuse Memory) : Type 0 where
  pub inner : inner_of fuse ≡ disk
  pub plan : plan_of fuse ≡ record { call = round.cut; forever = true; late = round.late }
  pub same : IsSameDisk (memory_facts disk) (fused_memory fuse)
  pub time : (fused_memory fuse).time ≡ 0
  pub failures : (fused_memory fuse).failures ≡ 0

-- The pick for sector number `at`. The list of picks is repeated as often as necessary. If the list
-- is empty, the pick is 0.
abbrev pub picked : List ℕ → ℕ → ℕ
picked picks at = slice_index picks (at % length picks)

-- The disk `disk` was stopped with the picks `picks`, and `stopped` is the disk after the stop.
-- Each sector holds one of its choices: the choice number is the sector's pick, modulo the number
-- of choices. All sectors are synced.
pub record IsStoppedBy (picks : List ℕ) (disk stopped : Memory) : Type 0 where
  pub stop : IsStopped (memory_facts disk) (memory_facts stopped)
  pub each : (at : ℕ) → at < (memory_facts disk).sectors → sector (memory_facts stopped).now at
      ≡ sector (memory_choices disk at) (picked picks at % length (memory_choices disk at))
  pub choices : HasOneChoice stopped

-- An opening writes nothing: a stop leaves only sectors that a stop could leave before the opening, and
-- reads return the same bytes.
pub record WritesNothing (before after : DiskFacts) : Type 0 where
  pub leaves : LeavesOnly before after (Mixture before)
  pub now : after.now ≡ before.now
  pub calls : AreCalls before after

-- The disk `first` was opened, with no byte string held. Then the registry answered the requests.
-- `last` is the disk after them.
pub record WasRun (first last : Fuse Memory) (s : State) (requests : List Request) (replies : List Reply) : Type 0 where
  pub old : Opened (Fuse Memory)
  pub new : Opened (Fuse Memory)
  pub opened : WritesNothing (fused_memory first) (fused_memory old.disk)
  pub calls : AreCallsExactly (opening_calls old) (fused_memory first) (fused_memory old.disk)
  pub at : IsAt fused_memory old s
  pub unheld : old.held ≡ []
  pub runs : RunsOver fused_memory old new s requests replies
  pub ends : last ≡ new.disk

-- Nothing was run: a call of the opening failed, or memory was refused.
pub record WasNotRun (first last : Fuse Memory) (refusal : StoreRefusal) : Type 0 where
  pub opened : WritesNothing (fused_memory first) (fused_memory last)
  pub why : ((refusal ≡ Device) × ((fused_memory first).failures < (fused_memory last).failures)) ⊎ (refusal ≡ OutOfMemory)

-- A round returns the replies, and changes state s to the state after its accepted commands; or it
-- returns the reason why it wasn't run, and keeps the state.
abbrev pub RoundTells : Fuse Memory → Fuse Memory → State → List Request → RoundReplies → State → Type 0
RoundTells first last s requests (Ran replies) s' = WasRun first last s requests replies.items
    × (taken : List Transaction) × AreAccepted (commanded requests replies.items) taken × (s' ≡ state_after s taken)
RoundTells first last s requests (NotRun refusal) s' = WasNotRun first last refusal × (s' ≡ s)

-- A round leads from a disk and its state to the next disk and state. The disk is put under a fuse
-- and opened, and the commands are applied. Then the disk under the fuse is stopped with the
-- round's picks.
pub record RoundLeads (before : Standing) (round : Round) (replies : RoundReplies) (after : Standing) : Type 0 where
  pub first : Fuse Memory
  pub last : Fuse Memory
  pub fused : IsFused before.disk round first
  -- all calls of the round go through this fuse
  pub plan : plan_of last ≡ plan_of first
  pub told : RoundTells first last before.state (asked round) replies after.state
  pub stopped : IsStoppedBy round.picks.items (inner_of last) after.disk
  pub left : Mixture (fused_memory last) (memory_facts after.disk).now
  pub sectors : (memory_facts after.disk).sectors ≡ (memory_facts before.disk).sectors
  pub stands : AlwaysStands after.disk after.state
