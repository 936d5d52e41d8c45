-- The draft of an update that begins, and what is left after a draft is given up.
use Rattle.std.proofs.Common.{◌≡◌, ℕ, Bool, List, length, All, IsTrue, IsFalse, sym, ap, subst, ◌∙◌, arith}
use Rattle.std.specs.List.{flat_map}
use Rattle.std.proofs.lemmas.List.{length-take-le}
use Rattle.std.proofs.lemmas.List.Elements.{Contains-get_or}
use Rattle.sector_disk.specs.Disk.{DiskFacts, HoldsNow, sector}
use Rattle.roots.specs.Entry.{SpellsEntry}
use Rattle.roots.specs.Root.{listed_preloads}
use Rattle.states.specs.State.{State}
use Rattle.store.specs.declared.draft.Draft.{Draft}
use Rattle.store.specs.declared.draft.Touched.TheVariants as touched
use Rattle.store.specs.declared.kept.Kept.{Kept}
use Rattle.store.specs.declared.placed_entry.PlacedEntry.{PlacedEntry}
use Rattle.store.specs.Draft.{IsDraftedAt, draft_state}
use Rattle.store.specs.NameOrder.{IsOrderOf, entry_names}
use Rattle.store.specs.Opened.{IsAt}
use Rattle.store.specs.Stands.{catalogues_of, entry_sectors, sectors_of, used}
use Rattle.store.specs.inside.Claimed.{IsClaimedBeside}
use Rattle.store.specs.inside.Draft.{ArePreloads, IsDraftList, IsDrafting, IsStagedIn, drafting, own_sectors_in, with_layout}
use Rattle.store.specs.inside.Room.{IsReleased}
use Rattle.store.specs.inside.Stored.{IsStored, opened}
use Rattle.store.proofs.Anew.{back_kept}
use Rattle.store.proofs.Claims.{claims_none}
use Rattle.store.proofs.Counts.{distinct_occurs, occurs-append, occurs_distinct}
use Rattle.store.proofs.Drafts.{own_places, own_same}
use Rattle.store.proofs.Frees.{catalogues_enough}
use Rattle.store.proofs.Preloads.{few_in, room_in}
use Rattle.store.proofs.Rooms.{kept_sectors}

module _ {sectors : ℕ} (kept : Kept) (stored : IsStored sectors kept) where
  -- the current list can be a draft's list
  pub standing_list : IsDraftList kept.entries.items kept.entries.items
  standing_list = record {
    fit = stored.0.entries_fit;
    names = stored.0.names;
    few = omega (arith, stored.0.counted, few_in kept.root.library_count kept.root.sectors kept.root.list stored.4 stored.0.root_fits.list);
    once = own_places kept.entries.items (occurs_distinct (flat_map sectors_of kept.entries.items)
        (λ k. omega (arith, distinct_occurs k (used kept.root kept.entries.items) stored.0.apart.once, occurs-append k (catalogues_of kept.root) (flat_map sectors_of kept.entries.items))));
    each = λ i d lt listed. Contains-get_or kept.entries.items i d lt;
  }

  -- the current preloads can be a draft's
  pub standing_preloads : ArePreloads (length kept.entries.items) (listed_preloads kept.root)
  standing_preloads =
      let listed = stored.0.root_fits.preloads.listed in
      record {
        few = omega (arith, length-take-le kept.root.preload_count kept.root.preloads (omega (arith, listed.size, listed.room)), listed.room);
        inside = λ k d lt. omega (arith, listed.used k d lt, stored.0.counted);
        once = stored.0.root_fits.preloads.distinct;
      }

  -- when an update begins, nothing is written yet, and there is room for the next change
  pub standing_staged : IsStagedIn kept kept.entries.items
  standing_staged = record {
    standing = kept.layout;
    stands = stored.0;
    claimed = subst (IsClaimedBeside kept.layout kept.layout) (sym (own_same kept.entries.items)) (claims_none kept.layout);
    room = omega (
      arith,
      catalogues_enough kept.root kept.entries.items kept.held kept.layout stored.0 stored.4,
      kept_sectors kept.root kept.entries.items kept.held kept.layout stored.0,
      room_in _ kept.root.list kept.entries.items stored.4 stored.0.room,
    );
  }

  module _ (usable : IsFalse kept.failed) (draft : Draft) (its : draft.entries.items ≡ kept.entries.items) (places : draft.sectors.items ≡ kept.sectors.items)
      (positions : draft.index.positions ≡ kept.index.positions) (preloads : draft.preloads.items ≡ listed_preloads kept.root) (untouched : draft.touched ≡ touched.Nothing) where
    pub begins : IsDrafting sectors kept draft
    begins = record {
      staged = subst (IsStagedIn kept) (sym its) standing_staged;
      indexed = stored.1;
      size = stored.2;
      listed = stored.3 usable;
      two = stored.4;
      list = subst (IsDraftList kept.entries.items) (sym its) standing_list;
      index = subst (λ l. IsOrderOf (entry_names l) draft.index.positions) (sym its) (subst (IsOrderOf (entry_names kept.entries.items)) (sym positions) stored.1);
      places = places ∙ stored.3 usable ∙ ap entry_sectors (sym its);
      preloads = subst (λ l. ArePreloads (length l) draft.preloads.items) (sym its) (subst (ArePreloads (length kept.entries.items)) (sym preloads) standing_preloads);
      later = λ changed. absurd (changed untouched);
      same = λ _. its;
      first = λ _. preloads;
    }

    -- when an update begins, the draft's state is the current state
    pub begins_at : {D : Type 0} (facts : D → DiskFacts) (disk : D) → (IsTrue (facts disk).honest → HoldsNow (facts disk)) → (s : State) → IsAt facts (opened disk kept) s
        → IsDraftedAt facts (drafting disk kept draft) s s
    begins_at facts disk holds s at =
        let now = (facts disk).now in
        let stands = at.stands now (holds at.honest) in
        record {
          stands = at;
          spelt = subst (All (λ (p : PlacedEntry). SpellsEntry (sector now p.at) p.entry)) (sym its) stands.intact.listed.each;
          is = stands.is
              ∙ ap (λ n. draft_state now n kept.entries.items (listed_preloads kept.root)) (sym (ap (λ t. t.generation) stands.is))
              ∙ (λ i. draft_state now s.generation (sym its i) (sym preloads i));
        }

-- once the sectors that a draft wrote are free, the store keeps what it kept before the update
pub given_up : {sectors : ℕ} (kept : Kept) (draft : Draft) → IsDrafting sectors kept draft → (layout : List Bool)
    → IsReleased kept.layout layout (own_sectors_in kept.entries.items draft.entries.items) → IsStored sectors (with_layout kept layout)
given_up kept draft is layout released = (
  back_kept is.staged.stands is.staged.claimed layout released,
  is.indexed,
  is.size,
  λ _. is.listed,
  is.two,
)
