-- A store with one byte string fewer.
use Rattle.std.proofs.Common.{◌≡◌, ◌≢◌, ℕ, zero, suc, ◌+◌, ◌-◌, ◌^◌, ◌<◌, ◌≤◌, Bool, List, [], ◌∷◌, ◌++◌, length, get_or, map, All, refl, sym, ap, subst, ◌∙◌, arith}
use Rattle.std.specs.Prelude.{bytes_eq}
use Rattle.std.specs.List.{flat_map, remove}
use Rattle.std.proofs.lemmas.Bool.{false≢true}
use Rattle.std.proofs.lemmas.List.{get_or-map, length-map, length-take-le}
use Rattle.std.proofs.lemmas.List.Edits.{length-remove}
use Rattle.std.proofs.lemmas.List.Elements.{All-map}
use Rattle.std.proofs.lemmas.List.Quantifiers.{all_pairs_remove}
use Rattle.std.proofs.lemmas.List.Sums.{sum_by-remove}
use Rattle.std.proofs.lemmas.Slice.Eq.{bytes_eq-Decides}
use Rattle.sector_disk.specs.Disk.{Sector, sector}
use Rattle.extents.specs.Layout.{unused_count}
use Rattle.roots.specs.declared.root.Root.{Root}
use Rattle.roots.specs.declared.version.Version.TheVariants.{Two}
use Rattle.states.specs.Cost.{catalogues_for, cost}
use Rattle.roots.specs.Root.{version_of, listed_preloads}
use Rattle.roots.specs.Entry.{EntryHasSpelling, SpellsEntry}
use Rattle.roots.proofs.RootLemmas.{listed_sectors-root_over_catalogues}
use Rattle.states.specs.Limits.{most_preloads}
use Rattle.states.specs.State.{Library, State}
use Rattle.states.specs.Changes.{libraries_without, without}
use Rattle.store.specs.declared.placed_entry.PlacedEntry.{PlacedEntry}
use Rattle.store.specs.Stands.{HasRoom, catalogues_of, entry_sectors, name_of, sectors_of, used, library_of, no_library, names_at}
use Rattle.store.specs.inside.Claimed.{IsClaimedBeside}
use Rattle.store.specs.declared.holds.HeldRow.{HeldRow}
use Rattle.store.specs.Holds.{lone_sectors}
use Rattle.store.specs.inside.Kept.{IsKept}
use Rattle.store.specs.inside.NameIndex.{closed_up}
use Rattle.store.specs.declared.change.Staged.TheVariants.{Catalogues}
use Rattle.store.specs.declared.edit.Edit.TheVariants.{Remove}
use Rattle.store.specs.inside.Change.{IsFollowed}
use Rattle.store.specs.inside.Next.{IsNext, next_root}
use Rattle.store.specs.inside.Prepared.{IsPrepared}
use Rattle.store.proofs.Anew.{IsMoved, more_inside, more_once, more_unused, moved_apart}
use Rattle.store.proofs.CataloguedEntries.{can_be_catalogued}
use Rattle.store.proofs.Counts.{occurs, occurs-append, occurs-flat_map}
use Rattle.store.proofs.Following.{following_stands}
use Rattle.store.proofs.Frees.{if_no, if_yes}
use Rattle.store.proofs.Libraries.{length-libraries}
use Rattle.store.proofs.Preloads.{enough_in, few_in, room_in}
use Rattle.store.proofs.Removed.{drop_none, map_remove, all_remove, closed_inside, closed_apart, at_closed}
use Rattle.store.proofs.Rooms.{cost_is, kept_sectors}
use Rattle.store.proofs.UsedAlone.{no_entry}

-- the byte strings without the first one with a name are those without the one at its position
pub without_is : (m : List Sector) (name : List ℕ) (entries : List PlacedEntry) (gone : ℕ) → gone < length entries
    → ((k : ℕ) (d : PlacedEntry) → k < gone → name_of (get_or entries k d).entry ≢ name)
    → ((d : PlacedEntry) → name_of (get_or entries gone d).entry ≡ name)
    → libraries_without name (map (library_of m) entries) ≡ map (library_of m) (remove entries gone)
without_is m name [] gone fits before at = absurd (omega (arith, fits))
without_is m name (e ∷ entries) zero fits before at =
    if_yes (bytes_eq name (name_of e.entry)) _ _ (λ isnt. false≢true (sym isnt ∙ (bytes_eq-Decides name (name_of e.entry)).1 (sym (at e))))
    ∙ ap (map (library_of m)) (sym (drop_none entries))
without_is m name (e ∷ entries) (suc gone) fits before at =
    if_no (bytes_eq name (name_of e.entry)) _ _ (λ is. before 0 e (omega arith) (sym ((bytes_eq-Decides name (name_of e.entry)).0 is)))
    ∙ ap (λ l. library_of m e ∷ l) (without_is m name entries gone (omega (arith, fits)) (λ k d lt. before (suc k) d (omega (arith, lt))) at)

-- positions that move up keep their names
pub names_closed : (libraries : List Library) (gone : ℕ) (positions : List ℕ) → gone < length libraries → All (λ position. position ≢ gone) positions
    → names_at (remove libraries gone) (map (closed_up gone) positions) ≡ names_at libraries positions
names_closed libraries gone [] fits others = refl
names_closed libraries gone (p ∷ positions) fits others =
    let here = at_closed libraries gone p no_library (others 0 0 (omega arith)) fits in
    let there = names_closed libraries gone positions fits (λ k d lt. others (suc k) d (omega (arith, lt))) in
    λ i. (here i).name ∷ there i

-- A store of version 2 has room for the catalogues of the next change, and for those of fewer byte strings.
pub catalogues_fit : (root : Root) (entries : List PlacedEntry) (held : List HeldRow) (layout : List Bool) → IsKept root entries held layout
    → version_of root ≡ Two → catalogues_for (length entries) ≤ unused_count layout
catalogues_fit root entries held layout kept two = omega (
  arith,
  kept_sectors root entries held layout kept,
  enough_in root.library_count root.sectors root.list two kept.root_fits.list,
  kept.counted,
  room_in (root.sectors - length (lone_sectors held)) root.list entries two kept.room,
)

-- The entry of a name that no preload has is removed, and the next root lists the others by catalogues that were
-- claimed.
pub record IsRemoval (root : Root) (entries : List PlacedEntry) (held : List HeldRow) (layout mid : List Bool) (name : List ℕ) (gone : ℕ) (catalogues : List ℕ) (next : Root) : Type 0 where
  pub kept : IsKept root entries held layout
  pub two : version_of root ≡ Two
  pub claimed : IsClaimedBeside layout mid catalogues
  pub fits : gone < length entries
  pub named : (d : PlacedEntry) → name_of (get_or entries gone d).entry ≡ name
  pub others : All (λ position. (d : PlacedEntry) → name_of (get_or entries position d).entry ≢ name) (listed_preloads root)
  pub later : root.generation + 1 < 2 ^ 64
  pub enough : length catalogues ≡ catalogues_for (length entries - 1)
  pub is_next : next ≡ next_root root (length entries - 1) catalogues (map (closed_up gone) (listed_preloads root))

module _ {root : Root} {entries : List PlacedEntry} {held : List HeldRow} {layout mid : List Bool} {name : List ℕ} {gone : ℕ} {catalogues : List ℕ}
    {next : Root} (removal : IsRemoval root entries held layout mid name gone catalogues next) where
  kept : IsKept root entries held layout
  kept = removal.kept

  fits : gone < length entries
  fits = removal.fits

  others : All (λ position. position ≢ gone) (listed_preloads root)
  others k d lt = λ same. removal.others k d lt no_entry (ap (λ i. name_of (get_or entries i no_entry).entry) same ∙ removal.named no_entry)

  abbrev old : PlacedEntry
  old = get_or entries gone no_entry

  abbrev left : List PlacedEntry
  left = remove entries gone

  -- one entry fewer is left
  pub count_left : length entries - 1 ≡ length left
  count_left = omega (arith, length-remove entries gone fits)

  listed : catalogues_of next ≡ catalogues
  listed = ap catalogues_of removal.is_next ∙ listed_sectors-root_over_catalogues (root.generation + 1) root.sectors (length entries - 1) catalogues (map (closed_up gone) (listed_preloads root))

  -- The sectors used before, and those of the new catalogues, are still used, or are given up.
  pub removal_moved : IsMoved (used root entries) catalogues (used next left) (sectors_of old ++ catalogues_of root)
  removal_moved = record {
    parts = λ k. omega (
      arith,
      occurs-append k (catalogues_of next) (flat_map sectors_of left),
      ap (occurs k) listed,
      occurs-append k (sectors_of old) (catalogues_of root),
      occurs-append k (used root entries) catalogues,
      occurs-append k (catalogues_of root) (flat_map sectors_of entries),
      occurs-flat_map k sectors_of left,
      occurs-flat_map k sectors_of entries,
      sum_by-remove (λ (e : PlacedEntry). occurs k (sectors_of e)) entries gone no_entry fits,
    );
  }

  -- there is room for the remaining entries, even if holders keep the sectors of the removed entry
  pub removal_room : (sectors : ℕ) → root.sectors ≤ sectors + (length (lone_sectors held) + length (sectors_of old)) → HasRoom sectors next.list left
  removal_room sectors enough = subst (λ r. HasRoom sectors r.list left) (sym removal.is_next) (
      let room = room_in (root.sectors - length (lone_sectors held)) root.list entries removal.two kept.room in
      let costs = sum_by-remove (λ (e : PlacedEntry). cost e.entry.file_length) entries gone no_entry fits in
      omega (arith, room, costs, count_left, enough, cost_is old (kept.entries_fit gone no_entry fits))
      )

  positions_fit : length (listed_preloads root) ≤ most_preloads
  positions_fit =
      let size = kept.root_fits.preloads.listed in
      omega (arith, length-take-le root.preload_count root.preloads (omega (arith, size.size, size.room)), size.room)

  pub removal_next : IsNext root left catalogues (map (closed_up gone) (listed_preloads root)) next
  removal_next = record {
    is_next = removal.is_next ∙ ap (λ n. next_root root n catalogues (map (closed_up gone) (listed_preloads root))) count_left;
    later = removal.later;
    few = omega (arith, count_left, few_in root.library_count root.sectors root.list removal.two kept.root_fits.list, kept.counted);
    enough = removal.enough ∙ ap catalogues_for count_left;
    fit = all_remove (λ (p : PlacedEntry). EntryHasSpelling p.entry) entries gone kept.entries_fit;
    apart = moved_apart kept removal.claimed next left removal_moved;
    room = removal_room root.sectors (omega arith);
    names = all_pairs_remove (λ (a b : PlacedEntry). name_of a.entry ≢ name_of b.entry) entries gone fits kept.names;
    few_preloads = omega (arith, length-map (listed_preloads root) (closed_up gone), positions_fit);
    preloads_inside = All-map (λ position. position < length left) (closed_up gone) (listed_preloads root)
        (λ k d lt. closed_inside gone (length left) (get_or (listed_preloads root) k d) (others k d lt)
        (omega (arith, kept.root_fits.preloads.listed.used k d lt, kept.counted, fits, count_left))
        (omega (arith, fits, count_left)));
    preloads_once = λ i j d lt inside same.
        let fewer : j < length (listed_preloads root) = omega (arith, inside, length-map (listed_preloads root) (closed_up gone)) in
        let one_of = get_or-map (closed_up gone) (listed_preloads root) i 0 d (omega (arith, lt, fewer)) in
        let other = get_or-map (closed_up gone) (listed_preloads root) j 0 d fewer in
        kept.root_fits.preloads.distinct i j 0 lt fewer
        (closed_apart gone (get_or (listed_preloads root) i 0) (get_or (listed_preloads root) j 0) (others i 0 (omega (arith, lt, fewer))) (others j 0 fewer) (sym one_of ∙ same ∙ other));
  }

  -- If the catalogues are claimed, the removal is prepared.
  pub removal_prepared : IsPrepared root entries held mid (record { change = record { staged = Catalogues catalogues; root = next }; edit = Remove gone })
  removal_prepared = record {
    before = layout;
    kept = kept;
    claimed = removal.claimed;
    place = (
      record { inside = more_inside kept removal.claimed; once = more_once kept removal.claimed },
      can_be_catalogued root.sectors (length catalogues) next left (omega (arith, kept.root_fits.sectors)) removal_next.enough removal_next.few removal_next.apart,
    );
    catalogues = catalogues;
    preloads = map (closed_up gone) (listed_preloads root);
    next = removal_next;
    moved = removal_moved;
    room = removal_room;
  }

  -- The removal turns the state into the state without the byte string.
  pub removal_followed : (now : List Sector) (s : State) (bytes : List ℕ) → IsFollowed Two root entries s now [] (record { staged = Catalogues catalogues; root = next }) bytes (entry_sectors left) left (without name s)
  removal_followed now s bytes = record {
    unused = more_unused kept removal.claimed;
    apart = λ k found there. omega (arith, there.1);
    synced = tt;
    stands = λ m by catalogued still. following_stands removal_next kept.root_fits Two m entries s (without name s) by catalogued
        (all_remove (λ (p : PlacedEntry). SpellsEntry (sector m p.at) p.entry) entries gone by.intact.listed.each)
        (ap (without name) by.is ∙ (λ i. record {
          generation = root.generation + 1;
          libraries = libraries m i;
          preloads = preloads m i;
        }));
  }
    where
      libraries : (m : List Sector) → libraries_without name (map (library_of m) entries) ≡ map (library_of m) left
      libraries m = without_is m name entries gone fits (λ k d lt same. kept.names k gone d lt fits (same ∙ sym (removal.named d))) removal.named

      preloads : (m : List Sector) → names_at (map (library_of m) entries) (listed_preloads root) ≡ names_at (map (library_of m) left) (map (closed_up gone) (listed_preloads root))
      preloads m = sym (ap (λ l. names_at l (map (closed_up gone) (listed_preloads root))) (map_remove (library_of m) entries gone)
          ∙ names_closed (map (library_of m) entries) gone (listed_preloads root) (omega (arith, fits, length-libraries m entries)) others)
