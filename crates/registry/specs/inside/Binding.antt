-- The progress of a binder.
use Rattle.std.specs.Prelude.{◌≡◌, ◌+◌, ℕ, List, length, Option, Some, None}
use Rattle.image.specs.Refusal.{program_refusal}
use Rattle.snapshots.specs.Snapshot.{Taken}
use Rattle.states.specs.State.{Library, State}
use Rattle.registry.specs.declared.needs.Needs.{Needs}
use Rattle.registry.specs.declared.walk.Walk.{Walk}
use Rattle.registry.specs.inside.Walked.{IsAmong, IsWalked}

-- the findings of a walk: the needs, and the files that were read
pub record Found : Type 0 where
  pub needs : Needs
  pub files : List Library

-- a binder: its program, its base, the snapshot, and the findings of its walk so far
pub record Binding : Type 0 where
  pub program : List ℕ
  pub base : ℕ
  pub snapshot : Taken
  pub found : Option Found

abbrev pub found_of : Option Walk → Option Found
found_of None = None
found_of (Some walk) = Some (record { needs = walk.needs; files = walk.files.items })

-- If the walk has begun, the tests of the program without its libraries accept it, and the walk
-- goes through the files of the snapshot.
abbrev pub IsReadyFor : Binding → Option Found → Type 0
IsReadyFor binder None = Unit
IsReadyFor binder (Some found) = (program_refusal binder.program binder.base ≡ None)
    × IsAmong (length binder.snapshot.handles) found.needs found.files

abbrev pub IsReady : Binding → Type 0
IsReady binder = IsReadyFor binder binder.found

-- the binder keeps its program, its base and its snapshot
pub record Stays (old new : Binding) : Type 0 where
  pub program : new.program ≡ old.program
  pub base : new.base ≡ old.base
  pub snapshot : new.snapshot ≡ old.snapshot

-- `going` steps were made: none if the walk hasn't begun, and otherwise one for the program and one
-- for each file that was read
abbrev pub HasCome : State → List ℕ → ℕ → Option Found → ℕ → Type 0
HasCome s program base None going = going ≡ 0
HasCome s program base (Some found) going = (program_refusal program base ≡ None)
    × IsWalked program s found.needs found.files × (going ≡ length found.files + 1)
