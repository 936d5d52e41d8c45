-- What an update keeps after a line changed its draft, or was refused.
use Rattle.std.proofs.Common.{◌≡◌, ◌≢◌, ℕ, Bool, List, length, IsFalse, Ok, Err, sym, ap, subst, ◌∙◌}
use Rattle.std.proofs.lemmas.Bool.{false_from_ne_true}
use Rattle.states.specs.Limits.{last_generation}
use Rattle.store.specs.declared.draft.Draft.{Draft}
use Rattle.store.specs.declared.draft.Touched.TheVariants as touched
use Rattle.store.specs.declared.kept.Kept.{Kept}
use Rattle.store.specs.declared.placed_entry.PlacedEntry.{PlacedEntry}
use Rattle.store.specs.declared.refusal.StoreRefusal.{StoreRefusal}
use Rattle.store.specs.NameOrder.{IsOrderOf, entry_names}
use Rattle.store.specs.Stands.{entry_sectors}
use Rattle.store.specs.inside.Draft.{ArePreloads, IsDraftList, IsDrafting, IsStagedIn, KeepsList, TakesBeside, with_layout}
use Rattle.store.specs.inside.NameIndex.{IsIndex}
use Rattle.roots.specs.Root.{listed_preloads, version_of}
use Rattle.store.proofs.DraftRooms.{staged_as}

-- a change of the layout only keeps the list
pub layout_keeps : (old new : Kept) {layout : List Bool} → new ≡ with_layout old layout → KeepsList old new
layout_keeps old new same = record {
  root = ap (λ k. k.root) same;
  entries = ap (λ k. k.entries) same;
  sectors = ap (λ k. k.sectors) same;
  index = ap (λ k. k.index) same;
  held = ap (λ k. k.held) same;
}

-- if two steps each keep the list, both together keep it
pub keeps_both : {old mid new : Kept} → KeepsList old mid → KeepsList mid new → KeepsList old new
keeps_both first second = record {
  root = second.root ∙ first.root;
  entries = second.entries ∙ first.entries;
  sectors = second.sectors ∙ first.sectors;
  index = second.index ∙ first.index;
  held = second.held ∙ first.held;
}

-- The current list is kept, and the draft is replaced by another one.
module _ {sectors more : ℕ} {kept after : Kept} {old new : Draft} (is : IsDrafting sectors kept old) (same : KeepsList kept after) (size : more ≡ sectors) where
  pub redrafted : IsStagedIn after new.entries.items → IsDraftList kept.entries.items new.entries.items → IsIndex new.entries.items new.index
      → new.sectors.items ≡ entry_sectors new.entries.items → ArePreloads (length new.entries.items) new.preloads.items
      → (new.touched ≢ touched.Nothing → kept.root.generation ≢ last_generation) → (new.touched ≢ touched.List → new.entries.items ≡ kept.entries.items)
      → (new.touched ≡ touched.Nothing → new.preloads.items ≡ listed_preloads kept.root) → IsDrafting more after new
  redrafted staged list index places preloads later standing begun = record {
    staged = staged;
    indexed = subst (λ v. IsOrderOf (entry_names v.items) after.index.positions) (sym same.entries)
        (subst (λ x. IsOrderOf (entry_names kept.entries.items) x.positions) (sym same.index) is.indexed);
    size = size ∙ is.size ∙ sym (ap (λ r. r.sectors) same.root);
    listed = ap (λ v. v.items) same.sectors ∙ is.listed ∙ sym (ap (λ v. entry_sectors v.items) same.entries);
    two = ap version_of same.root ∙ is.two;
    list = subst (λ v. IsDraftList v.items new.entries.items) (sym same.entries) list;
    index = index;
    places = places;
    preloads = preloads;
    later = λ changed last. later changed (sym (ap (λ r. r.generation) same.root) ∙ last);
    same = λ other. standing other ∙ sym (ap (λ v. v.items) same.entries);
    first = λ nothing. begun nothing ∙ sym (ap (λ r. listed_preloads r) same.root);
  }

  -- If the draft is unchanged except for its memory, the data that the update keeps are still consistent.
  pub drafting_as : IsStagedIn after old.entries.items → new.entries.items ≡ old.entries.items → new.sectors.items ≡ old.sectors.items → new.index.positions ≡ old.index.positions
      → new.preloads.items ≡ old.preloads.items → new.touched ≡ old.touched → IsDrafting more after new
  drafting_as staged entries places positions preloads touched = redrafted
      (subst (IsStagedIn after) (sym entries) staged)
      (subst (IsDraftList kept.entries.items) (sym entries) is.list)
      (subst (λ l. IsOrderOf (entry_names l) new.index.positions) (sym entries) (subst (IsOrderOf (entry_names old.entries.items)) (sym positions) is.index))
      (places ∙ is.places ∙ ap entry_sectors (sym entries))
      (subst (λ l. ArePreloads (length l) new.preloads.items) (sym entries) (subst (ArePreloads (length old.entries.items)) (sym preloads) is.preloads))
      (λ changed. is.later (λ nothing. changed (touched ∙ nothing)))
      (λ other. entries ∙ is.same (λ list. other (touched ∙ list)))
      (λ nothing. preloads ∙ is.first (sym touched ∙ nothing))

-- What taking room says about a store:
module _ {old new : Kept} {name bytes : List ℕ} {spare : ℕ} {Refuses : StoreRefusal → Type 0} where
  -- if bytes got room, the store is usable
  pub took_usable : {put : PlacedEntry} → TakesBeside old new name bytes spare Refuses (Ok put) → IsFalse old.failed
  took_usable takes = false_from_ne_true old.failed (λ failed. cc (takes.reopen.1 failed))

  -- if bytes got no room, nothing changed
  pub took_nothing : {e : StoreRefusal} → TakesBeside old new name bytes spare Refuses (Err e) → new ≡ old
  took_nothing takes = takes.kept ∙ ap (with_layout old) takes.same

  pub took_keeps : {e : StoreRefusal} {entries : List PlacedEntry} → TakesBeside old new name bytes spare Refuses (Err e) → IsStagedIn old entries → IsStagedIn new entries
  took_keeps takes staged = staged_as (layout_keeps old new takes.kept) takes.same staged
