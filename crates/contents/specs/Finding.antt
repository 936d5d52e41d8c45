-- Findings about installed libraries (own).
use Rattle.std.specs.Prelude.{◌≡◌, ◌≢◌, ◌⊎◌, ◌+◌, ◌<◌, ℕ, Bool, true, false, List, length, slice_index_or, sum_by, take, Some, None}
use Rattle.sector_disk.specs.Disk.{AreCallsAtMost, AreCallsExactly, DiskFacts}
use Rattle.elf_dynamic.specs.Strings.{soname}
use Rattle.hash_check.specs.FileRefusal.{ReadNeedsMemory}
use Rattle.states.specs.State.{Library, State}
use Rattle.store.specs.IsRead.{file_sectors}
use Rattle.store.specs.Stands.{no_library}
use Rattle.store.specs.declared.placed_entry.PlacedEntry.{PlacedEntry}
use Rattle.requests.specs.Library.{IsLibrary, library_refusal}
use Rattle.contents.specs.declared.finding.Finding.{Finding}
use Rattle.contents.specs.declared.finding.Finding.TheVariants.{Sound, Refused, OtherName, Unreadable}

-- The finding is true of the library. The finding Unreadable states nothing about the library,
-- because a read failed.
abbrev pub IsFinding : Library → Finding → Type 0
IsFinding l Sound = IsLibrary l
IsFinding l (Refused refusal) = library_refusal l.bytes ≡ Some refusal
IsFinding l OtherName = (library_refusal l.bytes ≡ None) × (soname l.bytes ≢ Some l.name)
IsFinding l Unreadable = Unit {0}

-- the finding is that the library can't be read
abbrev pub is_unreadable : Finding → Bool
is_unreadable Unreadable = true
is_unreadable other = false

-- Memory was refused for the library at position `k`: for its bytes, before any of its sectors was
-- read, or for a test that allocates.
abbrev pub StopsAt : (old new : DiskFacts) → List PlacedEntry → State → (k : ℕ) → Type 0
StopsAt old new entries s k =
    AreCallsAtMost (sum_by file_sectors (take k entries)) old new
    ⊎ (ReadNeedsMemory (slice_index_or s.libraries k no_library).bytes × AreCallsAtMost (sum_by file_sectors (take (k + 1) entries)) old new)

-- a check of the libraries with these entries ended early: memory was refused before any call of
-- the disk, or for one of the libraries
abbrev pub LacksMemory : (old new : DiskFacts) → List PlacedEntry → State → Type 0
LacksMemory old new entries s = AreCallsExactly 0 old new ⊎ ((k : ℕ) × (k < length s.libraries) × StopsAt old new entries s k)
