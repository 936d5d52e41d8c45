-- The contents of a disk for a caller in C: a library's bytes, and the numbers of the whole registry
-- (own).
use Rattle.std.specs.Prelude.{◌≡◌, ◌≢◌, ◌⊎◌, ◌↔◌, ◌<◌, ◌≤◌, ℕ, List, [], All, None, length, take}
use Rattle.byte_disk.specs.Bytes.{sectors_in}
use Rattle.byte_disk.specs.ReadOnlyDisk.{read_only_facts}
use Rattle.byte_disk.specs.declared.read_only.ReadOnlyDisk.{ReadOnlyDisk}
use Rattle.extents.specs.Layout.{unused_count}
use Rattle.extents.specs.Runs.{unused_runs}
use Rattle.sha2.specs.Sha256.{sha256}
use Rattle.states.specs.State.{State}
use Rattle.store.specs.Names.{IsFileSize}
use Rattle.store.specs.Opened.{Opened, IsAt}
use Rattle.store.specs.Holds.{layout_in_use}
use Rattle.store.specs.Step.{longest_unused, refusal_of_new}
use Rattle.store.specs.declared.refusal.StoreRefusal.{StoreRefusal}
use Rattle.requests.specs.declared.refusal.Refusal.{Refusal}
use Rattle.requests.specs.declared.refusal.Refusal.TheVariants as refusal
use Rattle.requests.specs.declared.reply.Reply.TheVariants.{Refused}
use Rattle.contents.specs.File.{HasFile}
use Rattle.contents.specs.Info.{IsInfo}
use Rattle.contents.specs.declared.info.Info.{Info}
use Rattle.contents.specs.declared.unread.Unread.{Unread}
use Rattle.contents.specs.declared.unread.Unread.TheVariants as unread
use Rattle.byte_registry.specs.Bytes.{HaveNoContents, HoldStore}
use Rattle.c_answers.specs.Answers.{IsToldAlone, IsTurnedAway}
use Rattle.c_answers.specs.Numbers.{done, no_room}
use Rattle.c_answers.specs.Unsaid.{IsSilent, IsUnbound, IsUncounted, IsUnlisted}
use Rattle.c_answers.specs.declared.answer.Answer.{Answer}
use Rattle.c_answers.specs.declared.information.Information.{Information}

-- the refusal of a command for the reason why a library's bytes aren't returned
abbrev pub refusal_of : Unread → Refusal
refusal_of unread.NotInstalled = refusal.NotInstalled
refusal_of unread.Unreadable = refusal.Device
refusal_of unread.OutOfMemory = refusal.OutOfMemory

-- the buffer has exactly the bytes `given`, with this status and this count; or the buffer is too
-- small; no text is reported
abbrev pub IsGiven : (given_status count : ℕ) → (given bytes : List ℕ) → Answer → ℕ → Type 0
IsGiven given_status count given bytes answer status =
    (((status ≡ given_status) × (take answer.bytes bytes ≡ given)) ⊎ ((status ≡ no_room) × (length bytes < length given)))
    × (answer.bytes ≡ length given) × (answer.count ≡ count) × IsUnlisted answer × IsUnbound answer × IsSilent answer

-- the buffer has the file, or the buffer is too small; no text is reported
abbrev pub IsFileGiven : List ℕ → List ℕ → Answer → ℕ → Type 0
IsFileGiven file bytes answer status = IsGiven done 0 file bytes answer status

-- The reason why a library's file isn't returned. It is C3 (NotInstalled) if and only if no library
-- has the name. It is never S1 (Device), because no read of bytes fails.
abbrev pub IsUnread : State → List ℕ → Unread → Type 0
IsUnread s name unread.NotInstalled = All (λ library. library.name ≢ name) s.libraries
IsUnread s name unread.Unreadable = ⊥
IsUnread s name unread.OutOfMemory = All (λ library. library.name ≢ name) s.libraries → ⊥

-- the buffer has a library's file or is too small, or the call reports why there is no file
abbrev pub IsFileTold : State → (name bytes text : List ℕ) → Answer → ℕ → Type 0
IsFileTold s name bytes text answer status =
    ((file : List ℕ) × HasFile s name file × IsFileGiven file bytes answer status)
    ⊎ ((why : Unread) × IsUnread s name why × IsToldAlone (Refused (refusal_of why)) text answer status)

-- `IsFileTold` holds for the state that the bytes hold; or there is no registry, and the call reports
-- why
abbrev pub IsFileAnswered : (disk name bytes text : List ℕ) → Answer → ℕ → Type 0
IsFileAnswered disk name bytes text answer status =
    ((s : State) × HoldStore disk s × IsFileTold s name bytes text answer status)
    ⊎ ((why : StoreRefusal) × HaveNoContents disk why × IsTurnedAway why text answer status)

-- The buffer has the file of the library with this name in the state that the bytes hold.
pub record IsFileOf (disk name bytes : List ℕ) (answer : Answer) : Type 0 where
  pub state : State
  pub holds : HoldStore disk state
  pub file : List ℕ
  pub has : HasFile state name file
  pub size : answer.bytes ≡ length file
  pub given : take answer.bytes bytes ≡ file

-- the digest is that of a library's file, or the call reports why there is no digest
abbrev pub IsDigestTold : State → (name digest text : List ℕ) → Answer → ℕ → Type 0
IsDigestTold s name digest text answer status =
    ((file : List ℕ) × HasFile s name file × (digest ≡ sha256 file) × (status ≡ done) × IsUncounted answer × IsSilent answer)
    ⊎ ((why : Unread) × IsUnread s name why × IsToldAlone (Refused (refusal_of why)) text answer status)

-- `IsDigestTold` holds for the state that the bytes hold; or there is no registry, and the call reports
-- why
abbrev pub IsDigestAnswered : (disk name digest text : List ℕ) → Answer → ℕ → Type 0
IsDigestAnswered disk name digest text answer status =
    ((s : State) × HoldStore disk s × IsDigestTold s name digest text answer status)
    ⊎ ((why : StoreRefusal) × HaveNoContents disk why × IsTurnedAway why text answer status)

-- The digest is the SHA-256 of the file of the library with this name in the state that the bytes hold.
pub record IsDigestOf (disk name digest : List ℕ) : Type 0 where
  pub state : State
  pub holds : HoldStore disk state
  pub file : List ℕ
  pub has : HasFile state name file
  pub is : digest ≡ sha256 file

-- the numbers of `info` as a structure for C
abbrev pub information_of : Info → Information
information_of info =
    record {
      version = 2;
      sectors = info.sectors;
      generation = info.generation;
      libraries = info.libraries;
      preloads = info.preloads;
      unused_sectors = info.unused.sectors;
      unused_runs = info.unused.runs;
      largest = info.unused.largest;
    }

-- The numbers are those of the step table for the state that the bytes hold, and those of the
-- disk's unused sectors.
pub record IsInfoOf (disk : List ℕ) (information : Information) : Type 0 where
  pub state : State
  pub holds : HoldStore disk state
  pub store : Opened ReadOnlyDisk
  pub at : IsAt read_only_facts store state
  pub now : (read_only_facts store.disk).now ≡ sectors_in disk
  pub unheld : store.held ≡ []
  pub told : Info
  pub is : information ≡ information_of told
  pub numbers : IsInfo (length (sectors_in disk)) state told
  pub unused : told.unused.sectors ≡ unused_count (layout_in_use store)
  pub runs : told.unused.runs ≡ length (unused_runs (layout_in_use store))
  pub largest : (file : List ℕ) → IsFileSize (length file)
      → (length file ≤ told.unused.largest) ↔ (refusal_of_new (length (sectors_in disk)) (longest_unused store) state file ≡ None)
  pub form : (told.unused.largest ≡ 0) ⊎ IsFileSize told.unused.largest

-- the numbers of the registry that the bytes hold are reported, or there is no registry, and the
-- call reports why
abbrev pub IsInfoAnswered : List ℕ → Information → List ℕ → Answer → ℕ → Type 0
IsInfoAnswered disk information text answer status =
    ((status ≡ done) × IsInfoOf disk information × IsUncounted answer × IsSilent answer)
    ⊎ ((why : StoreRefusal) × HaveNoContents disk why × IsTurnedAway why text answer status)
