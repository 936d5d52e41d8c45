-- The root that follows another: its encoding, what is kept with it, and the state that the sectors hold once it is
-- written.
use Rattle.std.proofs.Common.{◌≡◌, ℕ, ◌+◌, ◌-◌, Bool, List, length, get_or, set, map, All, sym, ap, subst, ◌∙◌, arith}
use Rattle.std.specs.List.{flat_map}
use Rattle.std.proofs.lemmas.List.{length-map}
use Rattle.std.proofs.lemmas.List.Elements.{All-contains, Contains-append_left, Contains-get_or}
use Rattle.sector_disk.specs.Disk.{Sector, sector}
use Rattle.extents.specs.Extent.{AreDistinct}
use Rattle.roots.specs.declared.root.Root.{Root}
use Rattle.roots.specs.declared.version.Version.{Version}
use Rattle.roots.specs.declared.version.Version.TheVariants.{One, Two}
use Rattle.roots.specs.Root.{RootHasSpelling, root_bytes, version_of, listed_preloads}
use Rattle.roots.specs.Choice.{slot_of}
use Rattle.roots.specs.Entry.{SpellsEntry}
use Rattle.roots.proofs.RootLemmas.{root_over_catalogues-has_spelling, listed_sectors-root_over_catalogues, listed_preloads-root_over_catalogues}
use Rattle.store.specs.declared.placed_entry.PlacedEntry.{PlacedEntry}
use Rattle.states.specs.State.{State}
use Rattle.store.specs.Stands.{AreListed, AreCatalogued, UsesApart, HasRoom, StandsBy, entry_sectors, catalogues_of, sectors_of, used, library_of, names_at}
use Rattle.store.specs.inside.Claimed.{IsUsable}
use Rattle.store.specs.declared.holds.HeldRow.{HeldRow}
use Rattle.store.specs.Holds.{lone_sectors}
use Rattle.store.specs.inside.HeldRows.{AreHeldRows}
use Rattle.store.specs.inside.Kept.{AreClaimed, IsKept}
use Rattle.store.specs.inside.Next.{IsNext}
use Rattle.passes.proofs.Parts.{distinct-first}
use Rattle.store.proofs.Puts.{next_stands}

module _ {root : Root} {others : List PlacedEntry} {catalogues preloads : List ℕ} {next : Root} (is : IsNext root others catalogues preloads next) (fits : RootHasSpelling root) where
  -- the root lists exactly these catalogues
  pub next_catalogues : catalogues_of next ≡ catalogues
  next_catalogues = ap catalogues_of is.is_next ∙ listed_sectors-root_over_catalogues (root.generation + 1) root.sectors (length others) catalogues preloads

  -- the root lists exactly these preloads
  pub next_preloads : listed_preloads next ≡ preloads
  next_preloads = ap listed_preloads is.is_next ∙ listed_preloads-root_over_catalogues (root.generation + 1) root.sectors (length others) catalogues preloads

  pub next_version : version_of next ≡ Two
  next_version = ap version_of is.is_next

  sectors_are : next.sectors ≡ root.sectors
  sectors_are = ap (λ r. r.sectors) is.is_next

  count_is : length others ≡ next.library_count
  count_is = sym (ap (λ r. r.library_count) is.is_next)

  inside_once : All (IsUsable root.sectors) (catalogues_of next) × AreDistinct (catalogues_of next)
  inside_once = (
    λ i d lt. All-contains (IsUsable root.sectors) (used next others) (get_or (catalogues_of next) i d) is.apart.inside
        (Contains-append_left (catalogues_of next) (flat_map sectors_of others) (get_or (catalogues_of next) i d) (Contains-get_or (catalogues_of next) i d lt)),
    distinct-first (catalogues_of next) (flat_map sectors_of others) is.apart.once,
  )

  -- The root can be encoded.
  pub following_fits : RootHasSpelling next
  following_fits = subst (λ r. RootHasSpelling r) (sym is.is_next) (root_over_catalogues-has_spelling (root.generation + 1) root.sectors (length others) catalogues preloads (record {
    generation_fits = is.later;
    sectors_fit = fits.sectors;
    few_libraries = is.few;
    enough = is.enough;
    few_preloads = is.few_preloads;
    catalogues_inside = subst (All (IsUsable root.sectors)) next_catalogues inside_once.0;
    catalogues_distinct = subst AreDistinct next_catalogues inside_once.1;
    preloads_inside = is.preloads_inside;
    preloads_distinct = is.preloads_once;
  }))

  -- With a layout that claims exactly the sectors in use, everything is kept.
  pub following_kept : (held : List HeldRow) (new : List Bool) → length new ≡ root.sectors
      → HasRoom (root.sectors - length (lone_sectors held)) next.list others → AreHeldRows others held
      → AreClaimed root.sectors new (used next others) (lone_sectors held) → IsKept next others held new
  following_kept held new size room rows claimed = record {
    root_fits = following_fits;
    size = size ∙ sym sectors_are;
    counted = count_is;
    entries_fit = is.fit;
    apart = subst (λ n. UsesApart n next others) (sym sectors_are) is.apart;
    room = subst (λ n. HasRoom (n - length (lone_sectors held)) next.list others) (sym sectors_are) room;
    names = is.names;
    rows = rows;
    claimed = subst (λ n. AreClaimed n new (used next others) (lone_sectors held)) (sym sectors_are) claimed;
  }

  -- if the catalogues list the entry sectors, the next root lists them too
  listed_is : (m : List Sector) → AreCatalogued m catalogues (entry_sectors others) → AreListed m next.library_count next.list (entry_sectors others)
  listed_is m listed = subst (λ r. AreListed m r.library_count r.list (entry_sectors others)) (sym is.is_next) (
    length-map others (λ (p : PlacedEntry). p.at),
    subst (λ l. AreCatalogued m l (entry_sectors others)) (sym (listed_sectors-root_over_catalogues (root.generation + 1) root.sectors (length others) catalogues preloads)) listed,
  )

  -- Sectors that encode the catalogues and the entries hold the state, once the root is written.
  pub following_stands : (version : Version) → (m : List Sector) (entries : List PlacedEntry) (s s' : State) → StandsBy version m root entries s
      → AreCatalogued m catalogues (entry_sectors others)
      → All (λ placed. SpellsEntry (sector m placed.at) placed.entry) others
      → s' ≡ record { generation = root.generation + 1; libraries = map (library_of m) others; preloads = names_at (map (library_of m) others) preloads }
      → StandsBy Two (set m (slot_of next.generation) (root_bytes next)) next others s'
  following_stands version m entries s s' by listed spelt same =
      let size : root.sectors ≡ length m = by.intact.size in
      next_stands m root next others following_fits (ap (λ r. r.generation) is.is_next) (sectors_are ∙ size) (omega (arith, size, fits.sectors))
      (λ later. let never : Two ≡ One = sym next_version ∙ later in absurd cc) s'
      next_version
      by.intact.current
      (record { sectors = listed_is m listed; each = spelt })
      (subst (λ n. UsesApart n next others) size is.apart)
      (subst (λ n. HasRoom n next.list others) size is.room)
      is.names
      (same ∙ sym (λ i. record { generation = (is.is_next i).generation; libraries = map (library_of m) others; preloads = names_at (map (library_of m) others) (next_preloads i) }))
