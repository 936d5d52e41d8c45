-- The effect of the script of a dump on a new registry (own).
use Rattle.std.specs.Prelude.{◌≡◌, ◌⊎◌, ◌<◌, ◌≤◌, ◌+◌, ℕ, List, [], ◌∷◌, ◌++◌, map, length, fold, All, None, Some}
use Rattle.std.specs.Int.{div_ceil}
use Rattle.sector_disk.specs.Disk.{sector_bytes}
use Rattle.extents.specs.Limits.{root_sectors}
use Rattle.states.specs.State.{State, empty_state}
use Rattle.states.specs.Cost.{taken_by}
use Rattle.requests.specs.Request.{Request, install, set_preloads}
use Rattle.requests.specs.State.{IsState}
use Rattle.requests.specs.Phase.{Phase}
use Rattle.requests.specs.Step.{accepted, refusal_at}
use Rattle.requests.specs.declared.refusal.Refusal.TheVariants.{Device, Reopen, Full, Fragmented, OutOfMemory}
use Rattle.requests.specs.declared.reply.Reply.{Reply}
use Rattle.requests.specs.declared.reply.Reply.TheVariants.{Refused}

-- a state of a registry whose files are bytes: each number in a file is below 256
pub record IsStateOfBytes (s : State) : Type 0 where
  pub state : IsState s
  pub bytes : All (λ l. All (λ byte. byte < 256) l.bytes) s.libraries

-- the request that sets the preloads, or no request if there are no preloads
abbrev pub preload_requests : List (List ℕ) → List Request
preload_requests [] = []
preload_requests (name ∷ names) = set_preloads (name ∷ names) ∷ []

-- the requests that lead from the empty state to this state: the libraries are installed in the
-- order of the state, and then the preloads are set
abbrev pub requests_for : State → List Request
requests_for s = map (λ l. install l.bytes) s.libraries ++ preload_requests s.preloads

-- the state with the same libraries and preloads; its generation is the number of requests that
-- lead to it
abbrev pub copy_of : State → State
copy_of s = record { generation = length (requests_for s); libraries = s.libraries; preloads = s.preloads }

-- the number of sectors that a disk must have for a state
abbrev pub sectors_for : State → ℕ
sectors_for s = root_sectors + taken_by s

-- the state of the phase is the one to which the requests `front` lead from an empty registry
abbrev pub IsBehind : List Request → Phase → Type 0
IsBehind front p = p.state ≡ fold accepted empty_state front

-- the request is an install, and the longest runs of unused sectors are too short for the bytes of its
-- file
abbrev pub HasShortRuns : Phase → Request → Type 0
HasShortRuns p (install bytes) = p.longest < div_ceil (length bytes) sector_bytes
HasShortRuns p request = ⊥

-- No test refuses the request except S7 and S8. S7 is possible only if the disk has too few sectors
-- for the state, and S8 only if the runs of unused sectors are too short.
pub record LacksRoomAtMost (s : State) (p : Phase) (request : Request) : Type 0 where
  pub only : (refusal_at p request ≡ None) ⊎ (refusal_at p request ≡ Some Full) ⊎ (refusal_at p request ≡ Some Fragmented)
  pub full : refusal_at p request ≡ Some Full → p.sectors < sectors_for s + p.lone
  pub fragmented : refusal_at p request ≡ Some Fragmented → HasShortRuns p request

-- There is room in the phase for the request: the disk has the sectors that the state needs, and the
-- runs are long enough.
pub record HasRoomFor (s : State) (p : Phase) (request : Request) : Type 0 where
  pub sectors : sectors_for s + p.lone ≤ p.sectors
  pub runs : HasShortRuns p request → ⊥

-- the call was refused because the disk failed (S1, S2) or memory was refused (S11)
abbrev pub IsFault : Reply → Type 0
IsFault (Refused Device) = Unit
IsFault (Refused Reopen) = Unit
IsFault (Refused OutOfMemory) = Unit
IsFault answer = ⊥
