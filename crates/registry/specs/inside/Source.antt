-- The place where a walk finds the files of a bind: the current store, or a snapshot of it.
use Rattle.std.specs.Prelude.{◌≡◌, ◌≢◌, ◌<◌, ℕ, List, length, slice_index_or, All, IsTrue, Option, Some, None}
use Rattle.sector_disk.specs.Disk.{DiskFacts}
use Rattle.roots.specs.Root.{listed_preloads}
use Rattle.scope.specs.LoadOrder.{names_of}
use Rattle.states.specs.State.{State}
use Rattle.store.specs.declared.placed_entry.PlacedEntry.{PlacedEntry}
use Rattle.store.specs.Opened.{Opened, IsAt}
use Rattle.store.specs.NameOrder.{entry_names}
use Rattle.store.specs.Stands.{HaveOwnNames, name_of}
use Rattle.snapshots.specs.Snapshot.{IsTakenOf, AreHeldAs}
use Rattle.requests.specs.Binding.{objects, preload_numbers}
use Rattle.registry.specs.declared.source.Source.{Source}
use Rattle.registry.specs.declared.source.Source.TheVariants.{Current, Held}

-- the number of files that a source offers
abbrev pub offered : {D : Type 0} → Source → Opened D → ℕ
offered Current store = length store.entries
offered (Held snapshot) store = length snapshot.now.handles

-- the positions of the preloads of a source
abbrev pub offered_preloads : {D : Type 0} → Source → Opened D → List ℕ
offered_preloads Current store = listed_preloads store.root
offered_preloads (Held snapshot) store = snapshot.now.preloads

-- the source's files have these entries
abbrev pub HasEntries : {D : Type 0} → Source → Opened D → List PlacedEntry → Type 0
HasEntries Current store entries = store.entries ≡ entries
HasEntries (Held snapshot) store entries = IsTakenOf store.held snapshot.now entries

-- a source offers as many files as it has entries
pub offered_count : {D : Type 0} (source : Source) (store : Opened D) (entries : List PlacedEntry) → HasEntries source store entries → offered source store ≡ length entries
offered_count Current store entries has = λ i. length (has i)
offered_count (Held snapshot) store entries has = has.held.count

-- In every mixture of the disk, the source's files are those of state s.
abbrev pub HasFiles : {D : Type 0} → (D → DiskFacts) → Source → Opened D → State → Type 0
HasFiles facts Current store s = IsAt facts store s
HasFiles facts (Held snapshot) store s = IsTrue (facts store.disk).honest × AreHeldAs facts store snapshot.now.handles s.libraries

-- The entries, and the positions `listed` of the preloads, are those of state s. `Has` states that
-- the files that are found by name have these entries.
pub record AreNamesOf (s : State) (entries : List PlacedEntry) (Has : Type 0) (listed : List ℕ) : Type 0 where
  pub has : Has
  pub own : HaveOwnNames entries
  pub names : names_of (objects s) ≡ entry_names entries
  pub preloads : All (λ p. p < length entries) listed → preload_numbers s ≡ listed

-- In the store `now`, the source offers the libraries of state s, with the entries `entries`, and the
-- preloads of s.
pub record Offers {D : Type 0} (facts : D → DiskFacts) (source : Source) (entries : List PlacedEntry) (s : State) (now : Opened D) : Type 0 where
  pub has : HasEntries source now entries
  pub own : HaveOwnNames entries
  pub names : names_of (objects s) ≡ entry_names entries
  pub preloads : All (λ p. p < length entries) (offered_preloads source now) → preload_numbers s ≡ offered_preloads source now
  pub files : HasFiles facts source now s

-- the result is the position of the entry with this name, or none if no entry has the name
abbrev pub IsFound : List PlacedEntry → List ℕ → Option ℕ → Type 0
IsFound entries name (Some i) = (i < length entries) × ((d : PlacedEntry) → name_of (slice_index_or entries i d).entry ≡ name)
IsFound entries name None = All (λ placed. name_of placed.entry ≢ name) entries
