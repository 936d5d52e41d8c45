-- The ends of the forms for a state, and the ends of a form for a disk: the output, standard error
-- and the status (own).
use Rattle.std.specs.Prelude.{◌≡◌, ◌≢◌, ◌⊎◌, ◌↔◌, ◌≤◌, ◌<◌, ℕ, List, All, Option, None, Ok, Err, length, slice_index_or, codes, count_by, is_none, sum_by}
use Rattle.extents.specs.Layout.{unused_count}
use Rattle.extents.specs.Runs.{unused_runs}
use Rattle.requests.specs.Library.{IsLibrary}
use Rattle.sector_disk.specs.Disk.{AreCallsAtMost, AreCallsExactly, DiskFacts}
use Rattle.states.specs.Cost.{free}
use Rattle.states.specs.State.{Library, State}
use Rattle.store.specs.Holds.{layout_in_use}
use Rattle.store.specs.IsRead.{IsRead, file_sectors}
use Rattle.store.specs.Names.{IsFileSize}
use Rattle.store.specs.Opened.{IsAt, Opened}
use Rattle.store.specs.Opens.{OpensByEntries}
use Rattle.store.specs.Stands.{no_library}
use Rattle.store.specs.Step.{longest_unused, refusal_of_new}
use Rattle.store.specs.declared.placed_entry.PlacedEntry.{PlacedEntry}
use Rattle.store.specs.declared.refusal.StoreRefusal.{StoreRefusal}
use Rattle.contents.specs.File.{HasFile}
use Rattle.contents.specs.Finding.{IsFinding, LacksMemory, is_unreadable}
use Rattle.contents.specs.declared.finding.Finding.{Finding}
use Rattle.contents.specs.declared.finding.Finding.TheVariants.{Sound, Unreadable}
use Rattle.program_parts.specs.Status.{disk_status}
use Rattle.program_parts.specs.Told.{IsTold}
use Rattle.program_parts.specs.declared.status.Status.{Status}
use Rattle.program_parts.specs.declared.status.Status.TheVariants.{Done, Refused, NoMemory}
use Rattle.tool_commands.specs.AnyDisk.{FormTells, IsUnread}
use Rattle.tool_commands.specs.Check.{AreFindings, HaveFailed, check_text, check_status, finding_text}
use Rattle.tool_commands.specs.Digest.{AreDigests, TellsDigests}
use Rattle.tool_commands.specs.Dump.{cut_status, cut_text, script_text}
use Rattle.tool_commands.specs.Form.{Question, info, check, digest, file, dump}
use Rattle.tool_commands.specs.Info.{info_text}
use Rattle.tool_parts.specs.Said.{memory_line, refusal_line, said_line}
use Rattle.tool_commands.specs.Said.{not_installed_line}
use Rattle.tool_parts.specs.Streams.{Streams, CannotWrite, IsSilent, Says, SaysOnly, Tells, TellsOnly}
use Rattle.tool_commands.specs.declared.form.Purpose.{Purpose}

-- An install of a file with a new name is refused with S7, S8, S9 or S10 if and only if the file
-- has more than `largest` bytes. `largest` is 0 or a possible length of a file.
pub record IsLargest {D : Type 0} (facts : D → DiskFacts) (store : Opened D) (s : State) (largest : ℕ) : Type 0 where
  pub exact : (bytes : List ℕ) → IsFileSize (length bytes)
      → (length bytes ≤ largest) ↔ (refusal_of_new (facts store.disk).sectors (longest_unused store) s bytes ≡ None)
  pub form : (largest ≡ 0) ⊎ IsFileSize largest

-- `info`: the lines have the numbers of the state and the disk
abbrev pub InfoEnds : {D : Type 0} → (D → DiskFacts) → Opened D → State → Streams → Status → Type 0
InfoEnds facts store s io status = (largest : ℕ) × IsLargest facts store s largest
    × TellsOnly Done (info_text (facts store.disk).sectors s.generation (length s.libraries) (length s.preloads)
    (unused_count (layout_in_use store)) (free (facts store.disk).sectors s) (length (unused_runs (layout_in_use store))) largest) io status

-- The forms read byte strings. Their calls changed the disk's facts from `old` to `new`.
module _ (old new : DiskFacts) where
  -- `check`: the finding for each library is written, and at least one call failed for each library
  -- that can't be read; or memory was refused for a library's bytes before the library was read, or
  -- for a test of a library
  abbrev pub CheckEnds : List PlacedEntry → State → Streams → Status → Type 0
  CheckEnds entries s io status =
      ((findings : List Finding) × AreFindings s.libraries findings × HaveFailed old new (count_by is_unreadable findings)
      × TellsOnly (check_status findings) (check_text s.libraries findings) io status)
      ⊎ (LacksMemory old new entries s × SaysOnly NoMemory memory_line io status)

  -- `digest`: the SHA-256 of each library's bytes is written, and at least one call failed for each
  -- library that can't be read; or memory was refused
  abbrev pub DigestEnds : State → Streams → Status → Type 0
  DigestEnds s io status =
      ((digests : List (Option (List ℕ))) × AreDigests s.libraries digests × HaveFailed old new (count_by is_none digests)
      × TellsDigests s.libraries digests io status)
      ⊎ SaysOnly NoMemory memory_line io status

  -- `file`: exactly the bytes of the library named `name` are written; or there is no such library;
  -- or the bytes of the library can't be read
  abbrev pub FileEnds : State → List ℕ → Streams → Status → Type 0
  FileEnds s name io status =
      ((bytes : List ℕ) × HasFile s name bytes × TellsOnly Done bytes io status)
      ⊎ ((All (λ library. library.name ≢ name) s.libraries × SaysOnly Refused not_installed_line io status)
      ⊎ IsUnread old new io status)

  -- Standard error reports why a script is cut at a library: the library can't be read because a
  -- call failed, or the file isn't a library with its entry's name, or memory was refused.
  abbrev pub IsCutFor : Library → Streams → Status → Type 0
  IsCutFor l io status =
      ((finding : Finding) × IsFinding l finding × (finding ≢ Sound) × (finding ≡ Unreadable → old.failures < new.failures)
      × (status ≡ cut_status finding) × Says io (said_line (finding_text l finding)))
      ⊎ ((status ≡ NoMemory) × Says io memory_line)

  -- `dump`: exactly the script for this purpose is written, and each file is a library with its
  -- entry's name; or exactly the script up to a library is written, and cut there; or the output
  -- failed
  abbrev pub DumpEnds : Purpose → State → Streams → Status → Type 0
  DumpEnds purpose s io status =
      ((status ≡ Done) × All IsLibrary s.libraries × Tells io (script_text purpose s) × IsSilent io)
      ⊎ (((k : ℕ) × (k < length s.libraries) × IsCutFor (slice_index_or s.libraries k no_library) io status × Tells io (cut_text s k))
      ⊎ CannotWrite io status)

-- the question is answered for an opened disk at state s; `left` is the disk afterwards
abbrev pub FormEnds : {D : Type 0} → (D → DiskFacts) → Opened D → D → State → Question → Streams → Status → Type 0
FormEnds facts store left s info io status = InfoEnds facts store s io status
FormEnds facts store left s check io status = CheckEnds (facts store.disk) (facts left) store.entries s io status
FormEnds facts store left s digest io status = DigestEnds (facts store.disk) (facts left) s io status
FormEnds facts store left s (file name) io status = FileEnds (facts store.disk) (facts left) s name io status
FormEnds facts store left s (dump purpose) io status = DumpEnds (facts store.disk) (facts left) purpose s io status

-- The number of calls of the disk for the answer to the question, if the disk's libraries have
-- these entries: 0 for `info`, and at most 1 for each sector of each library for `check` and
-- `digest`. For `file` and `dump` it is unspecified.
abbrev pub FormReads : (old new : DiskFacts) → List PlacedEntry → Question → Type 0
FormReads old new entries info = AreCallsExactly 0 old new
FormReads old new entries check = AreCallsAtMost (sum_by file_sectors entries) old new
FormReads old new entries digest = AreCallsAtMost (sum_by file_sectors entries) old new
FormReads old new entries (file name) = Unit {0}
FormReads old new entries (dump purpose) = Unit {0}

-- The form ends because the disk can't be opened. A dump writes the script `cut`, or the output
-- fails. Any other form writes nothing to the output.
abbrev pub EndsUnopened : Question → Status → Option (List ℕ) → Option (List ℕ) → Status → Type 0
EndsUnopened (dump purpose) ends before after status = IsTold ends (codes "cut") before after status
EndsUnopened question ends before after status = (status ≡ ends) × (after ≡ before)

-- A disk with any named byte strings was opened, and the question was answered for it. `left` is
-- the disk afterwards.
pub record IsAsked {D : Type 0} (facts : D → DiskFacts) (disk : D) (question : Question) (io : Streams) (status : Status) (left : D) : Type 0 where
  pub store : Opened D
  -- the opening of the disk read no library's file
  pub opened : OpensByEntries facts disk (Ok store)
  -- after the opening, the disk was only read
  pub read : Opened D
  pub only_read : IsRead facts store read
  pub calls : FormReads (facts store.disk) (facts left) store.entries question
  pub back : left ≡ read.disk
  -- if the opened disk is at state s, the answer is for this state
  pub ends : (s : State) → IsAt facts store s → FormEnds facts store left s question io status
  -- the answer on any disk, honest or not
  pub told : FormTells (facts store.disk) (facts left) question io status

-- the question is answered for the disk, or standard error reports why the disk was refused; `left`
-- is the disk afterwards
abbrev pub DiskEnds : {D : Type 0} → (D → DiskFacts) → D → Question → Streams → Status → D → Type 0
DiskEnds facts disk question io status left =
    IsAsked facts disk question io status left
    ⊎ ((refusal : StoreRefusal) × OpensByEntries facts disk (Err (refusal, left))
    × EndsUnopened question (disk_status refusal) io.before io.after status × Says io (refusal_line refusal))
