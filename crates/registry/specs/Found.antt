-- The libraries that are found for a program (own).
use Rattle.std.specs.Prelude.{◌≡◌, ◌<◌, ℕ, List, All, map, sum_by, Option, IsTrue}
use Rattle.sector_disk.specs.Disk.{DiskFacts}
use Rattle.scope.specs.LoadOrder.{Need, available, is_missing, load_order, missing, names_of, needed_by}
use Rattle.states.specs.State.{Library, State}
use Rattle.store.specs.Opened.{Opened}
use Rattle.requests.specs.Binding.{object_of, objects, preload_numbers}
use Rattle.requests.specs.declared.refusal.Refusal.{Refusal}
use Rattle.requests.specs.declared.refusal.Refusal.TheVariants.{Device, Reopen, Damaged, OutOfMemory}
use Rattle.registry.specs.Binding.{data_sectors}
use Rattle.registry.specs.Untested.{ReadsLibraries}

-- the found libraries, and a needed name that isn't installed, if there is one
pub record Found : Type 0 where
  pub libraries : List Library
  pub missing : Option Need

-- the number of sectors that hold the found libraries
abbrev pub found_sectors : Found → ℕ
found_sectors found = sum_by (λ library. data_sectors library.bytes) found.libraries

-- a needed name is missing among the installed libraries if and only if it is missing among
-- `libraries`
abbrev pub IsKnown : State → List Library → Need → Type 0
IsKnown s libraries need = is_missing (names_of (objects s)) need ≡ is_missing (names_of (map object_of libraries)) need

-- The program and the found libraries form the program's load order, `missing` is the first missing
-- name, and each found file is a library. A name that one of these objects needs is missing if and
-- only if no found library has it.
pub record IsFoundFor (s : State) (program : List ℕ) (found : Found) : Type 0 where
  pub order : load_order program (objects s) (preload_numbers s) ≡ available program (map object_of found.libraries)
  pub lacks : missing program (objects s) (preload_numbers s) ≡ found.missing
  pub are : ReadsLibraries s program
  pub known : All (λ object. All (IsKnown s found.libraries) (needed_by object)) (load_order program (objects s) (preload_numbers s))

-- the refusals of a search for libraries: a call failed, the disk has to be opened again, a file is
-- damaged, or memory was refused
abbrev pub IsFindRefusal : {D : Type 0} → (D → DiskFacts) → Opened D → Opened D → Refusal → Type 0
IsFindRefusal facts old new Device = (facts old.disk).failures < (facts new.disk).failures
IsFindRefusal facts old new Reopen = IsTrue old.failed
IsFindRefusal facts old new Damaged = Unit
IsFindRefusal facts old new OutOfMemory = Unit
IsFindRefusal facts old new other = ⊥
