-- The bytes of a library (own).
use Rattle.std.specs.Prelude.{◌≡◌, ℕ, List, Contains}
use Rattle.states.specs.State.{State}
use Rattle.store.specs.Opened.{Opened}
use Rattle.store.specs.Stands.{name_of}
use Rattle.store.specs.declared.placed_entry.PlacedEntry.{PlacedEntry}

-- a library with this name and these bytes is installed
abbrev pub HasFile : State → (name bytes : List ℕ) → Type 0
HasFile s name bytes = Contains s.libraries (record { name = name; bytes = bytes })

-- the store lists the entry `placed`, and the name of this entry is `name`
abbrev pub HasEntry : {D : Type 0} → Opened D → (name : List ℕ) → PlacedEntry → Type 0
HasEntry store name placed = Contains store.entries placed × (name_of placed.entry ≡ name)
