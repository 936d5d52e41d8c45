-- The state of a draft after a line of the update, derived from what reads return.
use Rattle.std.proofs.Common.{◌≡◌, ◌≢◌, ⊎_elim, ℕ, suc, ◌<◌, List, [], ◌∷◌, ◌++◌, length, get_or, map, set, All, refl, sym, ap, subst, ◌∙◌, arith}
use Rattle.std.specs.Prelude.{Contains}
use Rattle.std.specs.List.{flat_map, remove}
use Rattle.std.proofs.lemmas.List.{map_push}
use Rattle.std.proofs.lemmas.List.Elements.{All-push, All-set, Contains-append_cases}
use Rattle.sector_disk.specs.Disk.{DiskFacts, Sector, sector}
use Rattle.roots.specs.Entry.{SpellsEntry}
use Rattle.states.specs.Changes.{libraries_with, libraries_without, with_bytes, with_new, without}
use Rattle.states.specs.State.{Library, State}
use Rattle.store.specs.declared.placed_entry.PlacedEntry.{PlacedEntry}
use Rattle.store.specs.Draft.{Drafted, IsDraftedAt, drafted}
use Rattle.store.specs.Opened.{IsAt}
use Rattle.store.specs.Stands.{HaveOwnNames, library_of, name_of, names_at, sectors_of}
use Rattle.store.specs.inside.NameIndex.{closed_up}
use Rattle.store.proofs.Libraries.{length-libraries}
use Rattle.store.proofs.News.{names_at_more}
use Rattle.store.proofs.Removals.{names_closed, without_is}
use Rattle.store.proofs.Removed.{all_remove, map_remove}
use Rattle.store.proofs.Replacements.{libraries_with_is, names_at_with}
use Rattle.store.proofs.UsedAlone.{among_entries, libraries_same}

-- a sector among the sectors of `entries` is a sector of one of the entries
pub of_entry : (entries : List PlacedEntry) (k : ℕ) → Contains (flat_map sectors_of entries) k → (i : ℕ) × (i < length entries) × ((d : PlacedEntry) → Contains (sectors_of (get_or entries i d)) k)
of_entry [] k found = absurd (omega (arith, found.1))
of_entry (e ∷ entries) k found = ⊎_elim
    (λ here. (0, omega arith, λ d. here))
    (λ there. let found = of_entry entries k there in (suc found.0, omega (arith, found.1), found.2))
    (Contains-append_cases (sectors_of e) (flat_map sectors_of entries) k found)

-- The current state is the same, and reads of the draft's old entries return what they returned.
module _ {D : Type 0} (facts : D → DiskFacts) (old new : Drafted D) {s d : State} (at : IsDraftedAt facts old s d) (stands : IsAt facts new.store s)
    (still : (k : ℕ) → Contains (flat_map sectors_of old.entries) k → sector (facts new.store.disk).now k ≡ sector (facts old.store.disk).now k) where
  abbrev now : List Sector
  now = (facts new.store.disk).now

  spelt_still : All (λ placed. SpellsEntry (sector now placed.at) placed.entry) old.entries
  spelt_still i d lt = subst (λ content. SpellsEntry content (get_or old.entries i d).entry)
      (sym (still (get_or old.entries i d).at (among_entries old.entries i d lt (get_or old.entries i d).at (0, omega arith, refl))))
      (at.spelt i d lt)

  libraries_still : d.libraries ≡ map (library_of now) old.entries
  libraries_still = ap (λ t. t.libraries) at.is ∙ sym (libraries_same (facts old.store.disk).now now old.entries still)

  preloads_still : d.preloads ≡ names_at (map (library_of now) old.entries) old.preloads
  preloads_still = ap (λ t. t.preloads) at.is ∙ sym (ap (λ l. names_at l old.preloads) (libraries_same (facts old.store.disk).now now old.entries still))

  -- The draft's state is the one that the new list and the new preloads make.
  state_made : (entries : List PlacedEntry) (preloads : List ℕ) (made : State) → new.entries ≡ entries → new.preloads ≡ preloads
      → All (λ placed. SpellsEntry (sector now placed.at) placed.entry) entries
      → made.libraries ≡ map (library_of now) entries → made.preloads ≡ names_at (map (library_of now) entries) preloads → IsDraftedAt facts new s (drafted d made)
  state_made entries preloads made its_entries its_preloads spelt libraries names = record {
    stands = stands;
    spelt = subst (All (λ (placed : PlacedEntry). SpellsEntry (sector now placed.at) placed.entry)) (sym its_entries) spelt;
    is = λ i. record {
      generation = ap (λ t. t.generation) at.is i;
      libraries = (libraries ∙ ap (map (library_of now)) (sym its_entries)) i;
      preloads = (names ∙ (λ j. names_at (map (library_of now) (sym its_entries j)) (sym its_preloads j))) i;
    };
  }

  module _ (name bytes : List ℕ) (put : PlacedEntry) (spelt : SpellsEntry (sector now put.at) put.entry) (its : record { name = name; bytes = bytes } ≡ library_of now put) where
    -- if one entry is put after the others, the draft's state has one more byte string
    pub more_at : new.entries ≡ old.entries ++ put ∷ [] → new.preloads ≡ old.preloads → All (λ position. position < length old.entries) old.preloads
        → IsDraftedAt facts new s (drafted d (with_new name bytes d))
    more_at entries preloads inside = state_made (old.entries ++ put ∷ []) old.preloads (with_new name bytes d) entries preloads
        (All-push (λ (placed : PlacedEntry). SpellsEntry (sector now placed.at) placed.entry) old.entries put spelt_still spelt)
        (ap (λ l. l ++ record { name = name; bytes = bytes } ∷ []) libraries_still
        ∙ ap (λ (b : Library). map (library_of now) old.entries ++ b ∷ []) its
        ∙ sym (map_push (library_of now) old.entries put))
        (preloads_still
        ∙ sym (names_at_more (map (library_of now) old.entries) (library_of now put) old.preloads (λ k e lt. omega (arith, inside k e lt, length-libraries now old.entries)))
        ∙ ap (λ l. names_at l old.preloads) (sym (map_push (library_of now) old.entries put)))

    -- if one entry is replaced, the draft's state has the new bytes under its name
    pub set_at : (place : ℕ) → place < length old.entries → ((e : PlacedEntry) → name_of (get_or old.entries place e).entry ≡ name) → name_of put.entry ≡ name → HaveOwnNames old.entries
        → new.entries ≡ set old.entries place put → new.preloads ≡ old.preloads → IsDraftedAt facts new s (drafted d (with_bytes name bytes d))
    set_at place lt named its_name own entries preloads = state_made (set old.entries place put) old.preloads (with_bytes name bytes d) entries preloads
        (All-set (λ (placed : PlacedEntry). SpellsEntry (sector now placed.at) placed.entry) old.entries place put spelt spelt_still)
        (ap (libraries_with name bytes) libraries_still
        ∙ libraries_with_is now name bytes old.entries place put lt (λ k e before same. own k place e before lt (same ∙ sym (named e))) named its)
        (preloads_still ∙ sym (names_at_with now old.entries place put old.preloads (λ e. named e ∙ sym its_name)))

  -- if one entry is removed, the draft's state has one byte string fewer
  pub less_at : (name : List ℕ) (gone : ℕ) → gone < length old.entries → ((e : PlacedEntry) → name_of (get_or old.entries gone e).entry ≡ name) → HaveOwnNames old.entries
      → All (λ position. position ≢ gone) old.preloads → new.entries ≡ remove old.entries gone → new.preloads ≡ map (closed_up gone) old.preloads
      → IsDraftedAt facts new s (drafted d (without name d))
  less_at name gone lt named own others entries preloads = state_made (remove old.entries gone) (map (closed_up gone) old.preloads) (without name d) entries preloads
      (all_remove (λ (placed : PlacedEntry). SpellsEntry (sector now placed.at) placed.entry) old.entries gone spelt_still)
      (ap (libraries_without name) libraries_still
      ∙ without_is now name old.entries gone lt (λ k e before same. own k gone e before lt (same ∙ sym (named e))) named)
      (preloads_still
      ∙ sym (ap (λ l. names_at l (map (closed_up gone) old.preloads)) (map_remove (library_of now) old.entries gone)
      ∙ names_closed (map (library_of now) old.entries) gone old.preloads (omega (arith, lt, length-libraries now old.entries)) others))
