-- The result of an update of the registry that bytes hold, which makes all of its changes or none
-- (own).
use Rattle.std.specs.Prelude.{◌≡◌, ◌⊎◌, ℕ, List, [], ◌∷◌, ◌++◌, length, Result, Ok, Err, OnOk}
use Rattle.sector_disk.specs.Disk.{LeavesOnly}
use Rattle.byte_disk.specs.declared.disk.ByteDisk.{ByteDisk}
use Rattle.byte_disk.specs.declared.step.Step.TheVariants.{Sync}
use Rattle.byte_disk.specs.Bytes.{sectors_in}
use Rattle.byte_disk.specs.ByteDisk.{byte_facts, given_to, plan_of}
use Rattle.roots.specs.declared.root.Root.{Root}
use Rattle.roots.specs.declared.version.Version.TheVariants.{Two}
use Rattle.states.specs.State.{State}
use Rattle.store.specs.Draft.{Drafted, begun}
use Rattle.store.specs.Stands as sectors
use Rattle.store.specs.Stands.{StandsBy}
use Rattle.store.specs.declared.placed_entry.PlacedEntry.{PlacedEntry}
use Rattle.requests.specs.Request.{Request}
use Rattle.requests.specs.declared.refusal.Refusal.{Refusal}
use Rattle.requests.specs.declared.refusal.Refusal.TheVariants.{Device, OutOfMemory}
use Rattle.requests.specs.declared.reply.Reply.{Reply}
use Rattle.requests.specs.declared.reply.Reply.TheVariants.{Refused}
use Rattle.registry.specs.Stands.{Stands}
use Rattle.registry.specs.Updating.{DraftAnswers, IsUpdate, Plans, updated}
use Rattle.byte_registry.specs.Bytes.{HoldStore}
use Rattle.byte_registry.specs.Plans.{Holds, LeadsTo, synced_plan}
use Rattle.byte_registry.specs.Replies.{opened_on}

-- The disk has these bytes, and nothing was written to it: its plan has at most a sync.
pub record IsUnwritten (bytes : List ℕ) (disk : ByteDisk) : Type 0 where
  pub given : given_to disk ≡ sectors_in bytes
  pub steps : (plan_of disk ≡ []) ⊎ (plan_of disk ≡ Sync ∷ [])

-- Requests to a draft of state s were accepted one after the other. Each was planned in the draft
-- after the previous requests. `new` is the draft after all requests, and its state is the state
-- after them.
pub record ArePlanned (old new : Drafted ByteDisk) (s : State) (requests : List Request) : Type 0 where
  pub answers : List Reply
  pub plans : Plans byte_facts old new requests answers
  pub update : IsUpdate byte_facts old new s requests answers

-- A draft refused one of the requests. The n requests before it were planned, and led to the draft
-- `last`.
pub record StopsAt (old last : Drafted ByteDisk) (requests : List Request) (n : ℕ) (refusal : Refusal) : Type 0 where
  pub before : List Request
  pub request : Request
  pub others : List Request
  pub requests_are : requests ≡ before ++ request ∷ others
  pub count : n ≡ length before
  pub mid : Drafted ByteDisk
  pub answers : List Reply
  pub plans : Plans byte_facts old mid before answers
  pub refused : DraftAnswers byte_facts mid request (Refused refusal) last

-- The step table refuses request number `n`, counted from 0, with `refusal`, in the state of the
-- draft after the requests before it. Then the update is given up, with the disk `left`.
pub record IsRefusedAt (old : Drafted ByteDisk) (s : State) (requests : List Request) (n : ℕ) (refusal : Refusal) (left : ByteDisk) : Type 0 where
  pub last : Drafted ByteDisk
  pub stops : StopsAt old last requests n refusal
  pub update : IsUpdate byte_facts old stops.mid s stops.before stops.answers
  pub back : left ≡ last.store.disk

-- All requests were planned, and the commit of their draft left the disk `left`. A stop at any moment
-- leaves the state before the update, or the state after all requests.
pub record IsCommitted (old : Drafted ByteDisk) (s : State) (requests : List Request) (left : ByteDisk) : Type 0 where
  pub after : Drafted ByteDisk
  pub planned : ArePlanned old after s requests
  pub any_moment : LeavesOnly (byte_facts after.store.disk) (byte_facts left) (λ m. sectors.Stands m s ⊎ sectors.Stands m (updated s requests))

-- The answer to an update with this draft. All requests were planned; or one was refused, with the
-- number of requests before it; or a call of the commit failed; or memory for the draft was refused
-- before the first request.
abbrev pub AnswersUpdate : Drafted ByteDisk → State → List Request → Result (Unit {0}) (ℕ × Refusal) → ByteDisk → Type 0
AnswersUpdate old s requests (Ok done) left = IsCommitted old s requests left
AnswersUpdate old s requests (Err refused) left =
    IsRefusedAt old s requests refused.0 refused.1 left
    ⊎ ((refused.0 ≡ length requests) × (refused.1 ≡ Device) × IsCommitted old s requests left)
    ⊎ ((refused.0 ≡ 0) × (refused.1 ≡ OutOfMemory) × (left ≡ old.store.disk))

-- The bytes hold state s. The step table allows this answer to an update with the requests
-- `requests`, and the update leaves the disk `left`. The draft belongs to a registry that was just
-- opened on the bytes.
pub record IsUpdateOn (bytes : List ℕ) (s : State) (requests : List Request) (answer : Result (Unit {0}) (ℕ × Refusal)) (left : ByteDisk) : Type 0 where
  pub root : Root
  pub entries : List PlacedEntry
  pub by : StandsBy Two (sectors_in bytes) root entries s
  pub disk : ByteDisk
  pub unwritten : IsUnwritten bytes disk
  pub answers : AnswersUpdate (begun (opened_on disk root entries)) s requests answer left

-- The bytes hold state s and no other state; its files needn't be libraries. An update with these
-- requests was answered by the step table, and left the disk `left`. If the answer is Ok, the plan
-- of this disk leads, in one change, to the state after all requests.
pub record IsUpdateAsked (bytes : List ℕ) (s : State) (requests : List Request) (answer : Result (Unit {0}) (ℕ × Refusal)) (left : ByteDisk) : Type 0 where
  pub holds : HoldStore bytes s
  pub only : (other : State) → HoldStore bytes other → other ≡ s
  pub by_table : IsUpdateOn bytes s requests answer left
  pub leads : OnOk answer (LeadsTo sectors.Stands (sectors_in bytes) s (updated s requests) (synced_plan left))
  -- if s is a state of a registry, the plan leads to a state of a registry
  pub registry : OnOk answer (Holds bytes s → LeadsTo Stands (sectors_in bytes) s (updated s requests) (synced_plan left))
