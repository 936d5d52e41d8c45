-- Sectors that have a current root but aren't intact, and what reading finds in them.
use Rattle.std.proofs.Common.{◌≡◌, ℕ, ◌<◌, ◌≤◌, List, length, get_or, All, sym, subst, arith}
use Rattle.std.proofs.lemmas.List.{length-map, get_or-map}
use Rattle.std.proofs.lemmas.List.Elements.{All-contains}
use Rattle.sector_disk.specs.Disk.{Sector, sector}
use Rattle.extents.specs.Limits.{root_sectors}
use Rattle.roots.specs.declared.root.Root.{Root}
use Rattle.roots.specs.Entry.{SpellsEntry}
use Rattle.store.specs.declared.placed_entry.PlacedEntry.{PlacedEntry}
use Rattle.store.specs.Stands.{AreListed, IsListed, IsIntact, UsesApart, HasRoom, HaveOwnNames, entry_sectors, used}
use Rattle.store.proofs.Listings.{one_listing}
use Rattle.store.proofs.StandsLemmas.{one_list}
use Rattle.store.proofs.UsedAlone.{no_entry, own_used, current_fits}

-- if the used sectors lie on the disk, the entries' own sectors lie on the disk
entries_inside : (sectors : ℕ) (root : Root) (entries : List PlacedEntry) → UsesApart sectors root entries → All (λ at. at < sectors) (entry_sectors entries)
entries_inside sectors root entries apart i d lt =
    let fits : i < length entries = omega (arith, lt, length-map entries (λ (p : PlacedEntry). p.at)) in
    let both = All-contains (λ n. (root_sectors ≤ n) × (n < sectors)) (used root entries) (get_or entries i no_entry).at apart.inside (own_used root entries i no_entry fits) in
    subst (λ k. k < sectors) (sym (get_or-map (λ (p : PlacedEntry). p.at) entries i no_entry d fits)) both.1

module _ (m : List Sector) (root : Root) (size : root.sectors ≡ length m) where
  -- if a root's list has no entry sectors, or some of them aren't on the disk, the sectors are intact with no list of
  -- entries
  pub not_listed : ((sectors : List ℕ) → AreListed m root.library_count root.list sectors → All (λ at. at < root.sectors) sectors → ⊥) → (entries : List PlacedEntry) → IsIntact m root entries → ⊥
  not_listed never entries intact =
      never (entry_sectors entries) intact.listed.sectors
      (subst (λ n. All (λ at. at < n) (entry_sectors entries)) (sym size) (entries_inside (length m) root entries intact.apart))

  module _ (listed : List ℕ) (are : AreListed m root.library_count root.list listed) where
    -- if one of the listed sectors encodes no entry, the sectors are intact with no list of entries
    pub not_spelt : ((entries : List PlacedEntry) → entry_sectors entries ≡ listed → All (λ placed. SpellsEntry (sector m placed.at) placed.entry) entries → ⊥)
        → (entries : List PlacedEntry) → IsIntact m root entries → ⊥
    not_spelt never entries intact =
        never entries
        (one_listing m root.library_count root.sectors root.list (entry_sectors entries) listed (current_fits (sector m 0) (sector m 1) root intact.current).list intact.listed.sectors are)
        intact.listed.each

  -- if the listed entries have two equal names, use a sector twice or have no room, the sectors are intact with no list
  -- of entries
  pub not_apart : (entries : List PlacedEntry) → IsListed m root entries
      → (HaveOwnNames entries → UsesApart root.sectors root entries → HasRoom root.sectors root.list entries → ⊥) → (others : List PlacedEntry) → IsIntact m root others → ⊥
  not_apart entries here broken others intact =
      let fits = current_fits (sector m 0) (sector m 1) root intact.current in
      let is = one_list m root others entries fits intact.listed here in
      let at = subst (IsIntact m root) is intact in
      broken at.names
      (subst (λ n. UsesApart n root entries) (sym size) at.apart)
      (subst (λ n. HasRoom n root.list entries) (sym size) at.room)
