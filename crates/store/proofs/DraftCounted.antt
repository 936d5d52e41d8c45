-- The room for a draft's state and the longest unused runs, computed from what is kept.
use Rattle.std.proofs.Common.{◌≡◌, ℕ, ◌+◌, ◌*◌, List, ◌++◌, length, not, All, Option, IsFalse, IsTrue, refl, sym, ap, subst, ◌∙◌, arith}
use Rattle.std.specs.List.{flat_map}
use Rattle.std.proofs.lemmas.List.{length-append}
use Rattle.std.proofs.lemmas.List.Concat.{length-flat_map}
use Rattle.std.proofs.lemmas.List.Elements.{All-contains, All-filter}
use Rattle.std.proofs.lemmas.List.FromFn.{length-map-range_with_len}
use Rattle.sector_disk.specs.Disk.{DiskFacts, HasWholeSectors, HoldsNow, IsWhole, Sector}
use Rattle.sector_disk.proofs.Mixtures.{whole_mixture}
use Rattle.extents.specs.declared.extent.Extent.{Extent}
use Rattle.extents.specs.Extent.{AreDistinct, sector_count}
use Rattle.extents.specs.Layout.{unused_count}
use Rattle.extents.specs.Used.{ClaimsJust, layout_of}
use Rattle.extents.proofs.UsedLemmas.{unused_count-used, layout_of-claims, longest_runs-same, same-from_used}
use Rattle.passes.specs.Bytes.{IsOnDisk}
use Rattle.roots.specs.Entry.{EntryHasSpelling, IsDataExtent}
use Rattle.states.specs.Cost.{catalogues_for, taken_by}
use Rattle.states.specs.State.{State}
use Rattle.store.specs.declared.draft.Draft.{Draft}
use Rattle.store.specs.declared.kept.Kept.{Kept}
use Rattle.store.specs.declared.placed_entry.PlacedEntry.{PlacedEntry}
use Rattle.store.specs.declared.refusal.StoreRefusal.{StoreRefusal}
use Rattle.store.specs.Draft.{Drafted, IsDraftedAt, apart_from, layout_drafted, lists, longest_drafted, room_drafted}
use Rattle.store.specs.Holds.{in_use, lone_sectors}
use Rattle.store.specs.Stands.{catalogues_of, entries_cost, entry_sectors, sectors_of, used}
use Rattle.store.specs.Taken.{IsTaken}
use Rattle.store.specs.inside.Claimed.{IsUsable}
use Rattle.store.specs.inside.Draft.{IsDraftCounted, IsDrafting, drafting, own_in, own_sectors_in}
use Rattle.store.specs.inside.Stored.{longest_in}
use Rattle.store.proofs.Counts.{distinct_occurs, occurs-append, occurs_distinct}
use Rattle.store.proofs.DraftCounts.{swapped}
use Rattle.store.proofs.DraftLines.{generation_drafted}
use Rattle.store.proofs.DraftStates.{of_entry}
use Rattle.store.proofs.DraftWrites.{drafted_sectors, drafted_usable}
use Rattle.store.proofs.Drafts.{own_apart, own_places}
use Rattle.store.proofs.Frees as frees
use Rattle.store.proofs.Libraries.{length-libraries}
use Rattle.store.proofs.Placing.{data_inside, taken_also}
use Rattle.store.proofs.Rooms as rooms
use Rattle.store.proofs.UsedAlone.{no_entry}

module _ {sectors : ℕ} {kept : Kept} {draft : Draft} (is : IsDrafting sectors kept draft) where
  abbrev standing : List PlacedEntry
  standing = kept.entries.items

  abbrev entries : List PlacedEntry
  entries = draft.entries.items

  abbrev own : List ℕ
  own = own_sectors_in standing entries

  -- all sectors that are claimed
  abbrev all : List ℕ
  all = in_use kept.root standing kept.held ++ own

  all_claims : ClaimsJust kept.layout all
  all_claims = is.staged.claimed.each (in_use kept.root standing kept.held) is.staged.stands.claimed.claims

  all_once : AreDistinct all
  all_once = is.staged.claimed.once (in_use kept.root standing kept.held) is.staged.stands.claimed.claims is.staged.stands.claimed.once

  all_inside : All (IsUsable kept.root.sectors) all
  all_inside = drafted_usable is.staged.stands is.staged.claimed

  size : length kept.layout ≡ kept.root.sectors
  size = is.staged.claimed.size ∙ is.staged.stands.size

  -- each entry of the current list is in a sector of its own
  pub standing_once : AreDistinct (entry_sectors standing)
  standing_once = own_places standing (occurs_distinct (flat_map sectors_of standing)
      (λ k. omega (arith, distinct_occurs k (used kept.root standing) is.staged.stands.apart.once, occurs-append k (catalogues_of kept.root) (flat_map sectors_of standing))))

  -- The draft's entries and the current entries that were left out cost together as much as the current entries and the
  -- entries that the update wrote.
  costs_swapped : entries_cost entries + entries_cost (apart_from entries standing) ≡ entries_cost standing + length own
  costs_swapped = omega (
    arith,
    swapped length refl entries standing is.list.once standing_once is.list.each,
    length-flat_map sectors_of entries,
    length-flat_map sectors_of standing,
    length-flat_map (own_in standing) entries,
    length-flat_map (own_in entries) standing,
    rooms.costs_are entries is.list.fit,
    rooms.costs_are standing is.staged.stands.entries_fit,
    ap length (own_apart entries standing),
    rooms.costs_are (apart_from entries standing) (All-filter (λ placed. not (lists entries placed)) (λ (p : PlacedEntry). EntryHasSpelling p.entry) standing is.staged.stands.entries_fit),
  )

  -- The claimed sectors and the unused ones are, together, all sectors.
  claimed_free : 2 + length (catalogues_of kept.root) + entries_cost standing + length (lone_sectors kept.held) + length own + unused_count kept.layout ≡ kept.root.sectors
  claimed_free = omega (
    arith,
    unused_count-used kept.layout all all_once (λ k d lt. (all_inside k d lt).0) all_claims,
    size,
    is.staged.stands.root_fits.sectors,
    length-append (in_use kept.root standing kept.held) own,
    length-append (used kept.root standing) (lone_sectors kept.held),
    length-append (catalogues_of kept.root) (flat_map sectors_of standing),
    rooms.costs_are standing is.staged.stands.entries_fit,
  )

  module _ {D : Type 0} (facts : D → DiskFacts) (disk : D) where
    abbrev here : Drafted D
    here = drafting disk kept draft

    layout_size : length kept.layout ≡ length (layout_drafted here)
    layout_size = size ∙ sym (length-map-range_with_len _ 0 kept.root.sectors)

    layout_claims : ClaimsJust (layout_drafted here) all
    layout_claims = subst (λ l. ClaimsJust (layout_of kept.root.sectors (in_use kept.root standing kept.held ++ l)) all) (own_apart standing entries)
        (layout_of-claims kept.root.sectors all (λ k d lt. (all_inside k d lt).1))

    -- The longest unused runs of the kept layout are those of the draft's layout.
    pub longest_is : longest_in kept ≡ longest_drafted here
    longest_is = ap sector_count (longest_runs-same kept.layout (layout_drafted here) (same-from_used kept.layout (layout_drafted here) all layout_size all_claims layout_claims))

    -- The sectors that are taken from the layout are taken from those that aren't in use.
    pub taken_drafted : {need at : ℕ} {extents : List Extent} {catalogues : List ℕ} → All IsDataExtent extents → All (IsOnDisk (length kept.layout)) extents
        → IsTaken kept.layout need extents at catalogues → IsTaken (layout_drafted here) need extents at catalogues
    taken_drafted {need = need} {at = at} {extents = extents} {catalogues = catalogues} filled on_disk taken =
        taken_also kept.layout (layout_drafted here) all layout_size all_claims layout_claims need extents at catalogues (data_inside kept.layout extents filled on_disk) taken

    module _ (holds : IsTrue (facts disk).honest → HoldsNow (facts disk)) (whole : IsTrue (facts disk).honest → HasWholeSectors (facts disk)) where
      taken_is : {s d : State} → IsDraftedAt facts here s d → taken_by d ≡ entries_cost entries + 2 * catalogues_for (length entries)
      taken_is {s = s} {d = d} at =
          let now : List Sector = (facts disk).now in
          let held = holds at.stands.honest in
          let wholes : All IsWhole now = whole_mixture (whole at.stands.honest) (facts disk).time (omega arith) now held in
          let disk_size : kept.root.sectors ≡ length now = (at.stands.stands now held).intact.size in
          let costs = frees.costs_are now entries wholes is.list.fit (λ k found.
          let one = of_entry entries k found in
          let among = drafted_sectors kept.root standing kept.held entries is.list.each one.0 no_entry one.1 k (one.2 no_entry) in
          omega (arith, (All-contains (IsUsable kept.root.sectors) all k all_inside among).1, disk_size)) in
          ap taken_by at.is ∙ omega (arith, costs, length-libraries now entries)

      -- The numbers of a draft's state agree with what is kept.
      pub draft_counted : (s d : State) → IsDraftedAt facts here s d → IsDraftCounted kept (length entries) (room_drafted here) d
      draft_counted s d at = record {
        generation = generation_drafted facts here holds at;
        count = ap (λ t. length t.libraries) at.is ∙ length-libraries (facts disk).now entries;
        free = omega (arith, taken_is at, costs_swapped, claimed_free, is.staged.room);
      }

      -- An answer that is right for what is kept is right for what contracts see.
      pub refused_as : {u : Drafted D} → here ≡ u → (First : (sectors longest : ℕ) → State → Option StoreRefusal) (Answered : Option StoreRefusal → Type 0)
          → (IsFalse kept.failed → (sectors : ℕ) (d : State) → IsDraftCounted kept (length entries) sectors d → Answered (First sectors (longest_in kept) d))
          → (s d : State) → IsDraftedAt facts u s d → Answered (First (room_drafted u) (longest_drafted u) d)
      refused_as seen First Answered answers s d at =
          let was = subst (λ u. IsDraftedAt facts u s d) (sym seen) at in
          subst (λ u. Answered (First (room_drafted u) (longest_drafted u) d)) seen
          (subst (λ longest. Answered (First (room_drafted here) longest d)) longest_is (answers was.stands.usable (room_drafted here) d (draft_counted s d was)))
