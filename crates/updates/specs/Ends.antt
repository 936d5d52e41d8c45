-- The end of an update on the disk that it gets: its effect on the disk, its output and its
-- messages (own).
use Rattle.std.specs.Prelude.{◌≡◌, ◌⊎◌, ◌↔◌, ◌++◌, ℕ, List, [], ◌∷◌, Option, Result, Ok, Err, OnOk, IsTrue, false}
use Rattle.std.specs.Io.{StopsAt}
use Rattle.std.specs.Io.KnownBytes.{Appends}
use Rattle.std.specs.List.{list_any}
use Rattle.sector_disk.specs.Disk.{Sector, DiskFacts, Mixture, LeavesOnly}
use Rattle.states.specs.State.{State}
use Rattle.store.specs.Draft.{Drafted, begun}
use Rattle.store.specs.Opened.{Opened, IsAt}
use Rattle.store.specs.Opens.{OpensByEntries}
use Rattle.store.specs.Stands.{Stands}
use Rattle.store.specs.declared.draft.Touched.TheVariants.{Nothing}
use Rattle.store.specs.declared.refusal.StoreRefusal.{StoreRefusal}
use Rattle.requests.specs.Request.{Request}
use Rattle.requests.specs.Step.{answer_of}
use Rattle.requests.specs.declared.refusal.Refusal.{Refusal}
use Rattle.requests.specs.declared.reply.Reply.{Reply}
use Rattle.program_parts.specs.Reply.{reply_text}
use Rattle.program_parts.specs.Status.{disk_status, reply_status}
use Rattle.program_parts.specs.declared.status.Status.{Status}
use Rattle.scripts.specs.Line.{ended}
use Rattle.scripts.specs.declared.fault.ScriptFault.{ScriptFault}
use Rattle.updates.specs.Answer.{plan_texts, update_refusal_text}
use Rattle.updates.specs.Commit.{Commits}
use Rattle.updates.specs.Lines.{ArePlanned, BeginsWith, IsRefusedAt, commit_line}
use Rattle.tool_parts.specs.Said.{refusal_line}
use Rattle.updates.specs.Status.{update_status}
use Rattle.program_parts.specs.Streams.{Streams}
use Rattle.updates.specs.Streams.{BreaksOff, SaysOnly, TellsOnly}
use Rattle.registry.specs.Acknowledged.{Exchange, answered, given_up, update}
use Rattle.registry.specs.Opened as at
use Rattle.registry.specs.Ran.{RunsThrough}
use Rattle.registry.specs.Stands as registry
use Rattle.registry.specs.Updating.{IsUpdate, asks_change, updated}
use Rattle.updates.specs.Update.{requests_of}
use Rattle.updates.specs.declared.answer.UpdateRefusal.{UpdateRefusal}

module _ {D : Type 0} (facts : D → DiskFacts) (disk : D) where
  -- The registry on a disk with any named byte strings was opened, and the lines were planned in a
  -- draft.
  pub record IsBegun (lines : List (List ℕ)) (answers : List Reply) (u : Drafted D) : Type 0 where
    pub old : Opened D
    -- the opening of the disk read no library's file
    pub opened : OpensByEntries facts disk (Ok old)
    pub planned : ArePlanned facts (begun old) u lines answers
    -- the draft has a change if and only if a line requests a change
    pub changed : (u.touched ≡ Nothing) ↔ (list_any asks_change (requests_of lines) ≡ false)
    -- on an honest disk the lines are an update of the state that the disk holds
    pub update : IsTrue (facts disk).honest → (s : State) → Stands (facts disk).now s → IsUpdate facts (begun old) u s (requests_of lines) answers

  -- a stop at any moment leaves contents that a stop could leave before, or the state that the disk
  -- holds; `Holds` defines when sectors hold a state
  abbrev pub LeavesStandingBy : (List Sector → State → Type 0) → D → Type 0
  LeavesStandingBy Holds left = IsTrue (facts disk).honest → (s : State) → Holds (facts disk).now s
      → LeavesOnly (facts disk) (facts left) (λ m. Mixture (facts disk) m ⊎ Holds m s)

  -- a stop leaves the state that the disk holds, both as byte strings and, if each file is a library, as
  -- a registry
  abbrev pub LeavesStanding : D → Type 0
  LeavesStanding left = LeavesStandingBy Stands left × LeavesStandingBy registry.Stands left

  -- a stop at any moment leaves contents that a stop could leave before, the state that the disk
  -- holds, or the updated state
  abbrev pub LeavesUpdated : (List Sector → State → Type 0) → List Request → D → Type 0
  LeavesUpdated Holds requests left = IsTrue (facts disk).honest → (s : State) → Holds (facts disk).now s
      → LeavesOnly (facts disk) (facts left) (λ m. Mixture (facts disk) m ⊎ (Holds m s ⊎ Holds m (updated s requests)))

  -- If the disk held a registry, the update is one exchange of a run that begins with the registry that
  -- was opened.
  abbrev pub IsExchange : Opened D → Exchange → Opened D → Type 0
  IsExchange old exchange new = IsTrue (facts disk).honest → (s : State) → registry.Stands (facts disk).now s
      → at.IsAt facts old s × RunsThrough facts old (new ∷ []) new s (exchange ∷ [])

  -- `contents` returns the bytes that an output has, or none if the output's contract doesn't
  -- define them.
  module _ {O : Type 0} (contents : O → Option (List ℕ)) (io : Streams) (lines : List (List ℕ)) (answers : List Reply) (old : Opened D) (u : Drafted D) (status : Status) (left : D) where
    -- After the lines came `commit`. The answers to the lines and to the commit were written, or
    -- the output failed.
    pub record EndsInCommit : Type 0 where
      pub read : BeginsWith io.unread lines (ended commit_line)
      -- before the commit, the output had the answers to all lines
      pub held : O
      pub sent : Appends io.before (contents held) (plan_texts answers)
      pub answer : Result (Unit {0}) Refusal
      pub new : Opened D
      pub commit : Commits facts u answer new
      pub any_moment : LeavesUpdated Stands (requests_of lines) left
      -- once the commit is acknowledged, the updated state is on the disk
      pub ok : IsTrue (facts disk).honest → (s : State) → Stands (facts disk).now s → OnOk answer (IsAt facts new (updated s (requests_of lines)))
      -- if the disk held a registry, each file is still a library in the state that a stop leaves
      pub registry_moment : LeavesUpdated registry.Stands (requests_of lines) left
      pub registry_ok : IsTrue (facts disk).honest → (s : State) → registry.Stands (facts disk).now s → OnOk answer (at.IsAt facts new (updated s (requests_of lines)))
      -- the update was one exchange of a run
      pub ran : IsExchange old (answered (update (requests_of lines)) (answer_of answer)) new
      pub told : TellsOnly (reply_status (answer_of answer)) (plan_texts answers ++ reply_text (answer_of answer)) io status
      pub back : left ≡ new.disk

  module _ (io : Streams) (lines : List (List ℕ)) (answers : List Reply) (old : Opened D) (u : Drafted D) (status : Status) (left : D) where
    -- After the lines came a reason to refuse the update. This reason was written after the
    -- answers, or the output failed.
    pub record EndsRefused : Type 0 where
      pub refusal : UpdateRefusal
      pub last : Drafted D
      pub refused : IsRefusedAt facts io.unread lines u last refusal
      pub any_moment : LeavesStanding left
      pub ran : IsExchange old given_up last.store
      pub told : TellsOnly (update_status refusal) (plan_texts answers ++ update_refusal_text refusal) io status
      pub back : left ≡ last.store.disk

    -- After the lines came a fault: a stream failed or memory was refused. At most one more line
    -- was read, and that line wasn't answered.
    pub record EndsBroken : Type 0 where
      pub fault : ScriptFault
      pub part : List ℕ
      pub one_at_most : StopsAt part 10
      pub read : BeginsWith io.unread lines part
      pub any_moment : LeavesStanding left
      pub ran : IsExchange old given_up u.store
      pub told : BreaksOff fault (plan_texts answers) io status
      pub back : left ≡ u.store.disk

  module _ {O : Type 0} (contents : O → Option (List ℕ)) where
    -- the registry was opened, lines were planned in a draft, and then the lines were ended by `commit`,
    -- a refusal or a fault
    abbrev pub IsRun : Streams → Status → D → Type 0
    IsRun io status left = (lines : List (List ℕ)) × (answers : List Reply) × (u : Drafted D) × (begins : IsBegun lines answers u)
        × (EndsInCommit contents io lines answers begins.old u status left
        ⊎ (EndsRefused io lines answers begins.old u status left ⊎ EndsBroken io lines answers begins.old u status left))

    -- an update was run over the disk; or the disk was refused and returned, and standard error
    -- reports why
    abbrev pub UpdateEnds : Streams → Status → D → Type 0
    UpdateEnds io status left =
        IsRun io status left
        ⊎ ((refusal : StoreRefusal) × OpensByEntries facts disk (Err (refusal, left))
        × SaysOnly (disk_status refusal) (refusal_line refusal) io status)
