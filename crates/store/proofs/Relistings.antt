-- A store of version 1 whose entries are listed by catalogues.
use Rattle.std.proofs.Common.{◌≡◌, ℕ, ◌+◌, ◌*◌, ◌^◌, ◌<◌, ◌≤◌, Bool, List, [], length, sym, ap, subst, ◌∙◌, arith}
use Rattle.std.specs.List.{flat_map}
use Rattle.sector_disk.specs.Disk.{Sector}
use Rattle.std.proofs.lemmas.List.{length-take-le}
use Rattle.extents.specs.Layout.{unused_count}
use Rattle.extents.specs.Used.{layout_of}
use Rattle.roots.specs.declared.entry_list.EntryList.{EntryList}
use Rattle.roots.specs.declared.entry_list.EntryList.TheVariants.{InRoot, InCatalogues}
use Rattle.roots.specs.declared.root.Root.{Root}
use Rattle.roots.specs.declared.version.Version.TheVariants.{One}
use Rattle.roots.specs.Limits.{most_root_entries}
use Rattle.states.specs.Cost.{catalogues_for}
use Rattle.roots.specs.Root.{ListFits, version_of, version_of_list, listed_preloads}
use Rattle.roots.proofs.RootLemmas.{listed_sectors-root_over_catalogues}
use Rattle.states.specs.State.{State}
use Rattle.store.specs.declared.placed_entry.PlacedEntry.{PlacedEntry}
use Rattle.store.specs.Stands.{HasRoom, catalogues_in, catalogues_of, entry_sectors, sectors_of, used}
use Rattle.store.specs.Taken.{AreTaken}
use Rattle.store.specs.Upgraded.{upgraded}
use Rattle.store.specs.inside.Claimed.{IsClaimedBeside}
use Rattle.store.specs.declared.holds.HeldRow.{HeldRow}
use Rattle.store.specs.Holds.{in_use, lone_sectors}
use Rattle.store.specs.inside.Kept.{IsKept}
use Rattle.store.specs.declared.change.Staged.TheVariants.{Catalogues}
use Rattle.store.specs.inside.Change.{IsFollowed}
use Rattle.store.specs.inside.Next.{IsNext, next_root}
use Rattle.store.proofs.Anew.{IsMoved, more_unused, moved_apart}
use Rattle.store.proofs.Counts.{occurs, occurs-append}
use Rattle.store.proofs.Following.{following_stands}
use Rattle.store.proofs.Placing.{singles_in_use}
use Rattle.store.proofs.Rooms.{kept_sectors}

-- a root of version 1 has no catalogues
pub none_in : (list : EntryList) → version_of_list list ≡ One → catalogues_in list ≡ []
none_in (InRoot sectors) is = λ i. []
none_in (InCatalogues count listed) is = absurd (cc is)

-- a root of version 1 counts at most `most_root_entries` libraries
pub few_old : (libraries disk : ℕ) (list : EntryList) → version_of_list list ≡ One → ListFits libraries disk list → libraries ≤ most_root_entries
few_old libraries disk (InRoot sectors) is fits = fits.listed.room
few_old libraries disk (InCatalogues count listed) is fits = absurd (cc is)

-- Catalogues were claimed for the entries that a root of version 1 lists, and the next root lists these
-- catalogues.
pub record IsRelist (root : Root) (entries : List PlacedEntry) (held : List HeldRow) (layout mid : List Bool) (catalogues : List ℕ) (next : Root) : Type 0 where
  pub kept : IsKept root entries held layout
  pub one : version_of root ≡ One
  pub claimed : IsClaimedBeside layout mid catalogues
  pub enough : length catalogues ≡ catalogues_for (length entries)
  pub free : 2 * catalogues_for (length entries) ≤ unused_count layout
  pub later : root.generation + 1 < 2 ^ 64
  pub is_next : next ≡ next_root root (length entries) catalogues (listed_preloads root)

module _ {root : Root} {entries : List PlacedEntry} {held : List HeldRow} {layout mid : List Bool} {catalogues : List ℕ} {next : Root}
    (is : IsRelist root entries held layout mid catalogues next) where
  none : catalogues_of root ≡ []
  none = none_in root.list is.one

  listed : catalogues_of next ≡ catalogues
  listed = ap catalogues_of is.is_next ∙ listed_sectors-root_over_catalogues (root.generation + 1) root.sectors (length entries) catalogues (listed_preloads root)

  -- the sectors in use then are those in use before, and the catalogues
  pub relist_moved : IsMoved (used root entries) catalogues (used next entries) []
  relist_moved = record {
    parts = λ k. omega (
      arith,
      occurs-append k (catalogues_of next) (flat_map sectors_of entries),
      occurs-append k (used root entries) catalogues,
      occurs-append k (catalogues_of root) (flat_map sectors_of entries),
      ap (occurs k) none,
      ap (occurs k) listed,
    );
  }

  -- there is room for the catalogues twice, beside what is held
  pub relist_room : (sectors : ℕ) → root.sectors ≤ sectors + length (lone_sectors held) → HasRoom sectors next.list entries
  relist_room sectors enough = subst (λ r. HasRoom sectors r.list entries) (sym is.is_next)
      (omega (arith, kept_sectors root entries held layout is.kept, is.free, enough))

  pub relist_next : IsNext root entries catalogues (listed_preloads root) next
  relist_next = record {
    is_next = is.is_next;
    later = is.later;
    few = omega (arith, few_old root.library_count root.sectors root.list is.one is.kept.root_fits.list, is.kept.counted);
    enough = is.enough;
    fit = is.kept.entries_fit;
    apart = moved_apart is.kept is.claimed next entries relist_moved;
    room = relist_room root.sectors (omega arith);
    names = is.kept.names;
    few_preloads =
        let fits = is.kept.root_fits.preloads.listed in
        omega (arith, length-take-le root.preload_count root.preloads (omega (arith, fits.size, fits.room)), fits.room);
    preloads_inside = λ k d lt. omega (arith, is.kept.root_fits.preloads.listed.used k d lt, is.kept.counted);
    preloads_once = is.kept.root_fits.preloads.distinct;
  }

  -- The next root turns the state into the upgraded state.
  pub relist_followed : (now : List Sector) (s : State) (bytes : List ℕ) → IsFollowed One root entries s now [] (record { staged = Catalogues catalogues; root = next }) bytes (entry_sectors entries) entries (upgraded s)
  relist_followed now s bytes = record {
    unused = more_unused is.kept is.claimed;
    apart = λ k found there. omega (arith, there.1);
    synced = tt;
    stands = λ m by catalogued still. following_stands relist_next is.kept.root_fits One m entries s (upgraded s) by catalogued by.intact.listed.each (ap upgraded by.is);
  }

  -- The catalogues are in sectors that weren't in use.
  pub relist_taken : AreTaken layout catalogues → AreTaken (layout_of root.sectors (in_use root entries held)) (catalogues_of next)
  relist_taken taken = subst (AreTaken (layout_of root.sectors (in_use root entries held))) (sym listed) (singles_in_use root entries held layout is.kept catalogues taken)
