-- The root of an empty store: sectors that have it as their current root hold the empty state.
use Rattle.std.proofs.Common.{◌≡◌, inl, inr, ⊎_elim, ◌⊎◌, ℕ, List, [], length, set, replicate, false, refl, sym, ap, subst, ◌∙◌, arith}
use Rattle.std.proofs.lemmas.List.{length-replicate, length-set, get_or-set_same, get_or-set_other}
use Rattle.sector_disk.specs.Disk.{Sector, sector, DiskFacts, Mixture, HoldsNow, IsSynced, LeavesOnly, IsMixtureOrSet}
use Rattle.sector_disk.proofs.Moments.{goes_on, weaken, left_now}
use Rattle.roots.specs.declared.root.Root.{Root}
use Rattle.roots.specs.declared.slot.Slot.{Slot}
use Rattle.roots.specs.declared.slot.Slot.TheVariants.{Good, Bad}
use Rattle.roots.specs.Slot.{IsSlotOf}
use Rattle.roots.specs.Root.{root_bytes, RootHasSpelling, HasMagic, LacksMagic}
use Rattle.roots.proofs.Roots.{spelt_has_magic}
use Rattle.roots.specs.declared.version.Version.TheVariants.{Two}
use Rattle.roots.proofs.RootLemmas.{root_over_catalogues-has_spelling}
use Rattle.states.specs.Geometry.{IsGeometry}
use Rattle.states.specs.State.{empty_state}
use Rattle.states.proofs.Sizes.{in_range}
use Rattle.store.specs.Stands.{StandsBy, Stands}
use Rattle.extents.proofs.UsedLemmas.{claims-new}
use Rattle.store.specs.inside.Kept.{IsKept}
use Rattle.store.proofs.Beside.{no_rows, none_beside}
use Rattle.store.specs.inside.First.{first_root}

pub first_fits : (sectors : ℕ) → IsGeometry sectors → RootHasSpelling (first_root sectors)
first_fits sectors geometry = root_over_catalogues-has_spelling 0 sectors 0 [] [] (record {
  generation_fits = omega arith;
  sectors_fit = in_range sectors geometry;
  few_libraries = omega arith;
  enough = refl;
  few_preloads = omega arith;
  catalogues_inside = λ k d lt. absurd (omega (arith, lt));
  catalogues_distinct = λ i j d lt fits. absurd (omega (arith, fits));
  preloads_inside = λ k d lt. absurd (omega (arith, lt));
  preloads_distinct = λ i j d lt fits. absurd (omega (arith, fits));
})

pub first_stands : (m : List Sector) (sectors : ℕ) → IsGeometry sectors → length m ≡ sectors → LacksMagic (sector m 1)
    → StandsBy Two (set m 0 (root_bytes (first_root sectors))) (first_root sectors) [] empty_state
first_stands m sectors geometry size lacks = record {
  of_version = refl;
  intact = record {
    current = inl (
      record { has_spelling = first_fits sectors geometry; spelling = get_or-set_same m 0 (root_bytes (first_root sectors)) [] (omega (arith, in_range sectors geometry, size)) },
      refl,
      subst LacksMagic (sym (get_or-set_other m 0 1 (root_bytes (first_root sectors)) [] (omega arith))) lacks,
    );
    size = sym size ∙ sym (length-set m 0 (root_bytes (first_root sectors)));
    listed = record { sectors = (refl, record { each = λ i lt. absurd (omega (arith, lt)) }); each = λ i d lt. absurd (omega (arith, lt)) };
    apart = record { inside = λ k d lt. absurd (omega (arith, lt)); once = λ i j d lt fits. absurd (omega (arith, fits)) };
    room = omega (arith, in_range sectors geometry, size, length-set m 0 (root_bytes (first_root sectors)));
    names = λ i j d lt fits. absurd (omega (arith, fits));
  };
  is = refl;
}

-- the data that an empty store keeps are consistent
pub first_kept : (sectors : ℕ) → IsGeometry sectors → IsKept (first_root sectors) [] [] (replicate sectors false)
first_kept sectors geometry = record {
  root_fits = first_fits sectors geometry;
  size = length-replicate sectors false;
  counted = refl;
  entries_fit = λ k d lt. absurd (omega (arith, lt));
  apart = record { inside = λ k d lt. absurd (omega (arith, lt)); once = λ i j d lt fits. absurd (omega (arith, fits)) };
  room = omega (arith, in_range sectors geometry);
  names = λ i j d lt fits. absurd (omega (arith, fits));
  rows = no_rows [];
  claimed = none_beside [] (λ i j d lt fits. absurd (omega (arith, fits))) (claims-new sectors);
}

-- The first root is written to a synced disk. Each mixture is then a mixture from before, or holds the empty state.
module _ {old mid : DiskFacts} (sectors : ℕ) (geometry : IsGeometry sectors) (before : LeavesOnly old mid (Mixture old)) (holds : HoldsNow mid)
    (synced : IsSynced mid) (size : length mid.now ≡ sectors) (lacks : LacksMagic (sector mid.now 1)) (content : Sector)
    (is : content ≡ root_bytes (first_root sectors)) where
  abbrev IsEmpty : List Sector → Type 0
  IsEmpty m = StandsBy Two m (first_root sectors) [] empty_state

  abbrev IsEither : List Sector → Type 0
  IsEither m = Mixture old m ⊎ IsEmpty m

  written_stands : IsEmpty (set mid.now 0 content)
  written_stands = subst (λ c. IsEmpty (set mid.now 0 c)) (sym is) (first_stands mid.now sectors geometry size lacks)

  pub first_any : {new : DiskFacts} → LeavesOnly mid new (IsMixtureOrSet mid 0 content) → LeavesOnly old new IsEither
  first_any leaves = goes_on IsEither (weaken (Mixture old) IsEither (λ m mixture. inl mixture) before)
      (weaken (IsMixtureOrSet mid 0 content) IsEither
      (λ m either. ⊎_elim
      (λ mixture. inl (left_now (Mixture old) before m mixture))
      (λ newer. inr (subst IsEmpty (sym (newer.2 ∙ ap (λ l. set l 0 content) (synced.each newer.0 newer.1))) written_stands))
      either)
      leaves)

  pub first_done : {new : DiskFacts} → IsSynced new → new.now ≡ set mid.now 0 content → (m : List Sector) → Mixture new m → IsEmpty m
  first_done is_synced is_set m mixture = subst IsEmpty (sym (is_synced.each m mixture ∙ is_set)) written_stands

-- if a slot has a root, good or bad, its sector begins with the magic
pub slot_magic : (slot : Slot) (content : Sector) → IsSlotOf content slot → ((root : Root) × (slot ≡ Good root)) ⊎ (slot ≡ Bad) → HasMagic content
slot_magic slot content is either = ⊎_elim
    (λ good. spelt_has_magic content good.0 (subst (IsSlotOf content) good.1 is))
    (λ bad. let both : IsSlotOf content Bad = subst (IsSlotOf content) bad is in both.0)
    either

-- if a mixture is one from before or holds the empty state with the first root, it is one from before or holds the
-- empty state
pub either_stands : {old new : DiskFacts} (sectors : ℕ)
    → LeavesOnly old new (λ m. Mixture old m ⊎ StandsBy Two m (first_root sectors) [] empty_state)
    → LeavesOnly old new (λ m. Mixture old m ⊎ Stands m empty_state)
either_stands {old = old} sectors leaves = weaken (λ m. Mixture old m ⊎ StandsBy Two m (first_root sectors) [] empty_state) (λ m. Mixture old m ⊎ Stands m empty_state)
    (λ m either. ⊎_elim (λ mixture. inl mixture) (λ by. inr (first_root sectors, [], by)) either)
    leaves
