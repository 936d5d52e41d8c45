-- The names and byte strings that a store accepts, and the names that it has.
use Rattle.std.specs.Prelude.{◌≡◌, ◌≢◌, ℕ, ◌<◌, List, length, slice_index_or, All}
use Rattle.std.specs.Int.{IsInRange}
use Rattle.roots.specs.Limits.{least_file_bytes, most_file_bytes, most_name_bytes}
use Rattle.roots.specs.Entry.{IsNameByte}
use Rattle.roots.specs.Root.{listed_preloads}
use Rattle.store.specs.declared.placed_entry.PlacedEntry.{PlacedEntry}
use Rattle.store.specs.Opened.{Opened}
use Rattle.store.specs.Stands.{name_of}

-- these bytes can be a name: 1 to 240 visible characters, none of which is `/`
pub record IsName (name : List ℕ) : Type 0 where
  pub size : IsInRange 1 most_name_bytes (length name)
  pub bytes : All IsNameByte name

-- a put accepts a byte string of this length: 64 bytes to 16 MiB
abbrev pub IsFileSize : ℕ → Type 0
IsFileSize size = IsInRange least_file_bytes most_file_bytes size

-- no byte string of the store has this name
abbrev pub LacksName : {D : Type 0} → Opened D → List ℕ → Type 0
LacksName store name = All (λ placed. name_of placed.entry ≢ name) store.entries

-- a byte string of the store has this name
abbrev pub HasName : {D : Type 0} → Opened D → List ℕ → Type 0
HasName store name = (i : ℕ) × (i < length store.entries) × ((d : PlacedEntry) → name_of (slice_index_or store.entries i d).entry ≡ name)

-- no preload of the store has this name
abbrev pub IsNoPreload : {D : Type 0} → Opened D → List ℕ → Type 0
IsNoPreload store name = All (λ position. (d : PlacedEntry) → name_of (slice_index_or store.entries position d).entry ≢ name) (listed_preloads store.root)
