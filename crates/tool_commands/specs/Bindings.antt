-- The ends of the form `bindings`, which reports the bindings of a program's symbols (own).
use Rattle.std.specs.Prelude.{◌≡◌, ◌≢◌, ◌⊎◌, ℕ, List, Option, None, Ok, Err, map, false, is_none, if◌then◌else◌}
use Rattle.bindings.specs.Bindings.{bindings_text}
use Rattle.bindings.specs.Dependencies.{dependencies_text}
use Rattle.image.specs.Placement.{Placed, lacks_room, place}
use Rattle.image.specs.Refusal.{IsPlaceAnswer, IsProgramAnswer, program_refusal, undefined_refusal}
use Rattle.image.specs.declared.refusal.BindRefusal.{BindRefusal}
use Rattle.program_parts.specs.Reply.{command_refusal_text}
use Rattle.program_parts.specs.Status.{disk_status, refusal_status}
use Rattle.program_parts.specs.declared.status.Status.{Status}
use Rattle.program_parts.specs.declared.status.Status.TheVariants.{Done, Refused, NoMemory}
use Rattle.registry.specs.Binding.{bind_sectors}
use Rattle.registry.specs.Found.{Found, IsFindRefusal, found_sectors}
use Rattle.registry.specs.Untested.{ReadsLibraries}
use Rattle.requests.specs.Binding.{object_of, objects, of_bind, preload_numbers}
use Rattle.requests.specs.declared.refusal.Refusal.{Refusal}
use Rattle.requests.specs.declared.refusal.Refusal.TheVariants.{Damaged}
use Rattle.scope.specs.LoadOrder.{Need, available, load_order, missing, names_of}
use Rattle.scope.specs.Objects.{Named}
use Rattle.sector_disk.specs.Disk.{AreCallsExactly, DiskFacts}
use Rattle.states.specs.State.{State}
use Rattle.store.specs.IsRead.{IsRead}
use Rattle.store.specs.Opened.{IsAt, Opened}
use Rattle.store.specs.Opens.{OpensByEntries}
use Rattle.store.specs.declared.refusal.StoreRefusal.{StoreRefusal}
use Rattle.tool_parts.specs.Said.{memory_line, refusal_line, said_line}
use Rattle.tool_parts.specs.Streams.{Streams, SaysOnly, TellsOnly}

-- standard error has the line of a command that is refused with `refusal`, nothing is written to
-- the output, and the status is that of the refusal
abbrev pub SaysRefusal : Refusal → Streams → Status → Type 0
SaysRefusal refusal io status = SaysOnly (refusal_status refusal) (said_line (command_refusal_text refusal)) io status

-- the status for placed objects: Refused if the symbol of a relocation is undefined, and Done
-- otherwise
abbrev pub bindings_status : List Placed → Status
bindings_status objects = if is_none (undefined_refusal objects) then Done else Refused

-- the output has the bindings of the placed objects' symbols; or the objects have no room; or
-- memory was refused
abbrev pub PlacedTells : List Placed → Streams → Status → Type 0
PlacedTells objects io status =
    ((lacks_room objects ≡ false) × TellsOnly (bindings_status objects) (bindings_text objects) io status)
    ⊎ ((refusal : BindRefusal) × IsPlaceAnswer objects refusal × SaysRefusal (of_bind refusal) io status)

-- `PlacedTells` holds, or memory was refused before the objects were placed
abbrev pub WholeTells : List Placed → Streams → Status → Type 0
WholeTells objects io status = PlacedTells objects io status ⊎ SaysOnly NoMemory memory_line io status

-- the output has the names that each object needs, and those of them that aren't among `names`; or
-- memory was refused
abbrev pub LackingTells : List (List ℕ) → List Named → Streams → Status → Type 0
LackingTells names objects io status = TellsOnly Refused (dependencies_text names objects) io status ⊎ SaysOnly NoMemory memory_line io status

-- The report about `order`, the objects in load order, with the program at `base`, is written. If
-- no name is missing, the report has the bindings. Otherwise it has the names that the objects
-- need, and those of them that aren't among `names`.
abbrev pub OrderTells : Option Need → List (List ℕ) → List Named → ℕ → Streams → Status → Type 0
OrderTells lacks names order base io status =
    ((lacks ≡ None) × WholeTells (place base order) io status) ⊎ ((lacks ≢ None) × LackingTells names order io status)

-- the report about a program is written, with the program at `base` and with the libraries that
-- were found for it
abbrev pub FoundTells : List ℕ → ℕ → Found → Streams → Status → Type 0
FoundTells program base found io status =
    OrderTells found.missing (names_of (map object_of found.libraries)) (available program (map object_of found.libraries)) base io status

-- the report about a program is written, with the program at `base` and with the installed
-- libraries
abbrev pub StateTells : State → List ℕ → ℕ → Streams → Status → Type 0
StateTells s program base io status =
    OrderTells (missing program (objects s) (preload_numbers s)) (names_of (objects s)) (load_order program (objects s) (preload_numbers s)) base io status

-- the program at `base` is refused for a reason that depends on no library, and standard error
-- reports the refusal
abbrev pub IsRefusedAlone : List ℕ → ℕ → Streams → Status → Type 0
IsRefusedAlone program base io status = (refusal : BindRefusal) × IsProgramAnswer program base refusal × SaysRefusal (of_bind refusal) io status

-- `IsRefusedAlone` holds, and the registry is unchanged: no call of the disk was made.
abbrev pub IsRefusedUnread : {D : Type 0} → Opened D → Opened D → List ℕ → ℕ → Streams → Status → Type 0
IsRefusedUnread old new program base io status = (new ≡ old) × IsRefusedAlone program base io status

-- Exactly the calls of a bind were made: one call for each sector of each library that the program needs.
abbrev pub ReadsAsBind : {D : Type 0} → (D → DiskFacts) → Opened D → Opened D → State → List ℕ → Type 0
ReadsAsBind facts old new s program = AreCallsExactly (bind_sectors s program) (facts old.disk) (facts new.disk)

-- Each found library was read once, and nothing else was read.
abbrev pub ReadsFound : {D : Type 0} → (D → DiskFacts) → Opened D → Opened D → Found → Type 0
ReadsFound facts old new found = AreCallsExactly (found_sectors found) (facts old.disk) (facts new.disk)

-- The end of `bindings` over a disk that holds the state `s`. There are three cases. The program is
-- refused before a library is read. Or a library can't be read; in this case, S5 (Damaged) means
-- that a file that the bind reads isn't a library. Or the bindings or the missing names are
-- reported, after exactly the calls of a bind.
abbrev pub BindingsEnd : {D : Type 0} → (D → DiskFacts) → Opened D → Opened D → State → List ℕ → ℕ → Streams → Status → Type 0
BindingsEnd facts old new s program base io status =
    IsRefusedUnread old new program base io status
    ⊎ ((program_refusal program base ≡ None)
    × (((refusal : Refusal) × IsFindRefusal facts old new refusal × (refusal ≡ Damaged → ReadsLibraries s program → ⊥) × SaysRefusal refusal io status)
    ⊎ (ReadsLibraries s program × ReadsAsBind facts old new s program × StateTells s program base io status)))

-- The end of `bindings` on any disk, honest or not: the program is refused before a library is
-- read, or a library can't be read, or a report with some libraries is written.
abbrev pub BindingsTell : {D : Type 0} → (D → DiskFacts) → Opened D → Opened D → List ℕ → ℕ → Streams → Status → Type 0
BindingsTell facts old new program base io status =
    IsRefusedUnread old new program base io status
    ⊎ (((refusal : Refusal) × IsFindRefusal facts old new refusal × SaysRefusal refusal io status)
    ⊎ ((found : Found) × ReadsFound facts old new found × FoundTells program base found io status))

-- The bindings of a program with the libraries of a registry were reported. The registry was only
-- read.
pub record ToldBindings {D : Type 0} (facts : D → DiskFacts) (old new : Opened D) (program : List ℕ) (base : ℕ) (io : Streams) (status : Status) : Type 0 where
  pub read : IsRead facts old new
  pub ends : (s : State) → IsAt facts old s → BindingsEnd facts old new s program base io status
  pub told : BindingsTell facts old new program base io status

-- A disk with any named byte strings was opened, and the bindings of a program were reported.
-- `left` is the disk afterwards.
pub record IsAskedFor {D : Type 0} (facts : D → DiskFacts) (disk : D) (program : List ℕ) (base : ℕ) (io : Streams) (status : Status) (left : D) : Type 0 where
  pub old : Opened D
  -- the opening of the disk read no library's file
  pub opened : OpensByEntries facts disk (Ok old)
  pub new : Opened D
  pub tells : ToldBindings facts old new program base io status
  pub back : left ≡ new.disk

-- the bindings of a program with the disk's libraries are reported, or standard error reports why
-- the disk was refused; `left` is the disk afterwards
abbrev pub BindingsEnds : {D : Type 0} → (D → DiskFacts) → D → List ℕ → ℕ → Streams → Status → D → Type 0
BindingsEnds facts disk program base io status left =
    IsAskedFor facts disk program base io status left
    ⊎ ((refusal : StoreRefusal) × OpensByEntries facts disk (Err (refusal, left)) × SaysOnly (disk_status refusal) (refusal_line refusal) io status)
