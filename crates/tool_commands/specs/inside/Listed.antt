-- The names and lengths of libraries that a store keeps in memory.
use Rattle.std.specs.Prelude.{◌≡◌, ◌<◌, ◌⊎◌, ℕ, List, length, replicate, slice_index_or}
use Rattle.sector_disk.specs.Disk.{DiskFacts}
use Rattle.states.specs.State.{Library, State}
use Rattle.store.specs.Opened.{IsAt, Opened}
use Rattle.store.specs.Stands.{name_of, no_library}
use Rattle.store.specs.declared.placed_entry.PlacedEntry.{PlacedEntry}

-- The entries have the names and lengths of these libraries.
pub record AreListed (entries : List PlacedEntry) (libraries : List Library) : Type 0 where
  pub count : length entries ≡ length libraries
  pub name : (i : ℕ) → i < length entries → (d : PlacedEntry) → name_of (slice_index_or entries i d).entry ≡ (slice_index_or libraries i no_library).name
  pub size : (i : ℕ) → i < length entries → (d : PlacedEntry) → (slice_index_or entries i d).entry.file_length ≡ length (slice_index_or libraries i no_library).bytes

-- the store is at a state with these libraries; or nothing is known about the store's disk, and the
-- store's entries have the libraries' names and lengths
abbrev pub Lists : {D : Type 0} → (D → DiskFacts) → Opened D → List Library → Type 0
Lists facts store libraries =
    ((s : State) × IsAt facts store s × (s.libraries ≡ libraries)) ⊎ AreListed store.entries libraries

-- a library with the name and the length of an entry, whose bytes are all 0
abbrev pub as_listed : PlacedEntry → Library
as_listed placed = record { name = name_of placed.entry; bytes = replicate placed.entry.file_length 0 }
