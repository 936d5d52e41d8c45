-- The sectors of an entry, derived from the facts about all used sectors.
use Rattle.std.proofs.Common.{ℕ, ◌+◌, ◌-◌, ◌<◌, ◌≤◌, List, [], ◌∷◌, length, get_or, All, arith}
use Rattle.std.specs.Prelude.{Contains}
use Rattle.std.proofs.lemmas.List.Elements.{All-contains, Contains-append_right}
use Rattle.extents.specs.Limits.{root_sectors}
use Rattle.extents.specs.Extent.{Has, places}
use Rattle.passes.specs.Bytes.{IsOnDisk}
use Rattle.passes.proofs.Extents.{run_in_places}
use Rattle.roots.specs.declared.root.Root.{Root}
use Rattle.store.specs.declared.placed_entry.PlacedEntry.{PlacedEntry}
use Rattle.store.specs.Stands.{UsesApart, extents_of, used}
use Rattle.store.specs.inside.Kept.{HaveSpellings}
use Rattle.store.proofs.UsedAlone.{among_used}

-- each sector of an entry's bytes lies on the disk, after the roots
pub entry_inside : (sectors : ℕ) (root : Root) (entries : List PlacedEntry) → UsesApart sectors root entries → (i : ℕ) (d : PlacedEntry)
    → i < length entries → (k : ℕ) → Contains (places (extents_of (get_or entries i d).entry)) k → (root_sectors ≤ k) × (k < sectors)
entry_inside sectors root entries apart i d lt k found =
    All-contains (λ n. (root_sectors ≤ n) × (n < sectors)) (used root entries) k apart.inside
    (among_used root entries i d lt k (Contains-append_right ((get_or entries i d).at ∷ []) (places (extents_of (get_or entries i d).entry)) k found))

-- the extents of an entry end on the disk
pub entry_on_disk : (sectors : ℕ) (root : Root) (entries : List PlacedEntry) → UsesApart sectors root entries → HaveSpellings entries
    → (i : ℕ) (d : PlacedEntry) → i < length entries → All (IsOnDisk sectors) (extents_of (get_or entries i d).entry)
entry_on_disk sectors root entries apart fit i d lt j e in_extents =
    let entry = (get_or entries i d).entry in
    let extent = get_or (extents_of entry) j e in
    let filled : 1 ≤ extent.count = ((fit i d lt).extents.listed.used j e in_extents).filled in
    let last : Has extent (extent.start + extent.count - 1) = (omega (arith, filled), omega (arith, filled)) in
    let inside = entry_inside sectors root entries apart i d lt (extent.start + extent.count - 1) (run_in_places (extents_of entry) j e in_extents (extent.start + extent.count - 1) last) in
    omega (arith, inside.1, filled)
