-- The list of a draft that a line changed.
use Rattle.std.proofs.Common.{◌≡◌, ◌≢◌, ℕ, ◌+◌, ◌<◌, ◌≤◌, nat_eq, false, List, [], ◌∷◌, ◌++◌, length, get_or, set, map, take, drop, All, sym, ap, subst, ◌∙◌, arith}
use Rattle.std.specs.Prelude.{AllPairs, Contains}
use Rattle.std.specs.List.{refill, remove}
use lib.Seq.{take-append_seam}
use Rattle.std.proofs.lemmas.Bool.{false≢true, ne_eqb}
use Rattle.std.proofs.lemmas.List.{get_or-map, length-append, length-map, length-set}
use Rattle.std.proofs.lemmas.List.Edits.{length-remove}
use Rattle.std.proofs.lemmas.List.Elements.{All-map, All-push, All-set}
use Rattle.std.proofs.lemmas.List.Folds.{list_any_none}
use Rattle.std.proofs.lemmas.List.Quantifiers.{all_pairs_push, all_pairs_remove}
use Rattle.extents.specs.Extent.{AreDistinct}
use Rattle.roots.specs.Entry.{EntryHasSpelling}
use Rattle.roots.specs.declared.root.Root.{Root}
use Rattle.states.specs.Limits.{most_libraries}
use Rattle.store.specs.declared.placed_entry.PlacedEntry.{PlacedEntry}
use Rattle.store.specs.Draft.{lists}
use Rattle.store.specs.Stands.{entry_sectors, name_of, used}
use Rattle.store.specs.inside.Draft.{ArePreloads, IsDraftList, IsOneOrApart}
use Rattle.store.specs.inside.NameIndex.{closed_up}
use Rattle.store.proofs.DraftCounts.{same_at}
use Rattle.store.proofs.News.{names_more}
use Rattle.store.proofs.Removed.{all_remove, closed_apart, closed_inside}
use Rattle.store.proofs.Replacements.{names_with, set_cases}
use Rattle.store.proofs.UsedAlone.{no_entry, own_used}

-- if the entries' sectors are distinct, any two entries have different sectors
pub places_pairs : (entries : List PlacedEntry) → AreDistinct (entry_sectors entries) → AllPairs (λ a b. a.at ≢ b.at) entries
places_pairs entries once i j d less lt = same_at entries once i j d less lt

pub pairs_places : (entries : List PlacedEntry) → AllPairs (λ a b. a.at ≢ b.at) entries → AreDistinct (entry_sectors entries)
pairs_places entries pairs i j d less lt same =
    let at = λ (p : PlacedEntry). p.at in
    let fits : j < length entries = omega (arith, lt, length-map entries at) in
    let before : i < length entries = omega (arith, less, fits) in
    pairs i j no_entry less fits (sym (get_or-map at entries i no_entry d before) ∙ same ∙ get_or-map at entries j no_entry d fits)

-- The current list has no entry in a sector that isn't in use.
pub unlisted : (root : Root) (standing : List PlacedEntry) (put : PlacedEntry) → (Contains (used root standing) put.at → ⊥) → lists standing put ≡ false
unlisted root standing put unused = list_any_none (λ (other : PlacedEntry). nat_eq other.at put.at) standing
    (λ i d lt. ne_eqb (get_or standing i d).at put.at (λ same. unused (subst (Contains (used root standing)) same (own_used root standing i d lt))))

-- if no entry of the list is in the sector of an entry, the entry is apart from the list
pub unlisted_apart : (standing : List PlacedEntry) (put : PlacedEntry) → lists standing put ≡ false → IsOneOrApart standing put
unlisted_apart standing put isnt is = absurd (false≢true (sym isnt ∙ is))

module _ {standing entries : List PlacedEntry} (is : IsDraftList standing entries) where
  -- One more entry is put after the others.
  module _ (put : PlacedEntry) (fits : EntryHasSpelling put.entry) (isnt : lists standing put ≡ false) (apart : All (λ p. p.at ≢ put.at) entries) where
    pub list_more : All (λ other. name_of other.entry ≢ name_of put.entry) entries → length entries < most_libraries → IsDraftList standing (entries ++ put ∷ [])
    list_more new few = record {
      fit = All-push (λ (p : PlacedEntry). EntryHasSpelling p.entry) entries put is.fit fits;
      names = names_more entries put is.names new;
      few = omega (arith, few, length-append entries (put ∷ []));
      once = pairs_places (entries ++ put ∷ []) (all_pairs_push (λ (a b : PlacedEntry). a.at ≢ b.at) entries put (places_pairs entries is.once) apart);
      each = All-push (IsOneOrApart standing) entries put is.each (unlisted_apart standing put isnt);
    }

    -- If an entry replaces the one with its name, the list can still be a draft's list.
    pub list_set : (place : ℕ) → place < length entries → ((d : PlacedEntry) → name_of (get_or entries place d).entry ≡ name_of put.entry) → IsDraftList standing (set entries place put)
    list_set place lt named = record {
      fit = All-set (λ (p : PlacedEntry). EntryHasSpelling p.entry) entries place put fits is.fit;
      names = names_with entries place put lt named is.names;
      few = omega (arith, is.few, length-set entries place put);
      once = pairs_places (set entries place put) pairs;
      each = All-set (IsOneOrApart standing) entries place put (unlisted_apart standing put isnt) is.each;
    }
      where
        pairs : AllPairs (λ a b. a.at ≢ b.at) (set entries place put)
        pairs i j d less fits =
            let inside : j < length entries = omega (arith, fits, length-set entries place put) in
            let before : i < length entries = omega (arith, less, inside) in
            set_cases (λ (a : PlacedEntry). a.at ≢ (get_or (set entries place put) j d).at) entries place i put d lt
            (λ here. set_cases (λ (b : PlacedEntry). put.at ≢ b.at) entries place j put d lt
            (λ there _. omega (arith, less, here, there))
            (λ _ same. apart j d inside (sym same)))
            (λ _. set_cases (λ (b : PlacedEntry). (get_or entries i d).at ≢ b.at) entries place j put d lt
            (λ _ same. apart i d before same)
            (λ _. places_pairs entries is.once i j d less inside))

  -- If one entry is removed, the list can still be a draft's list.
  pub list_less : (gone : ℕ) → gone < length entries → IsDraftList standing (remove entries gone)
  list_less gone lt = record {
    fit = all_remove (λ (p : PlacedEntry). EntryHasSpelling p.entry) entries gone is.fit;
    names = all_pairs_remove (λ (a b : PlacedEntry). name_of a.entry ≢ name_of b.entry) entries gone lt is.names;
    few = omega (arith, is.few, length-remove entries gone lt);
    once = pairs_places (remove entries gone) (all_pairs_remove (λ (a b : PlacedEntry). a.at ≢ b.at) entries gone lt (places_pairs entries is.once));
    each = all_remove (IsOneOrApart standing) entries gone is.each;
  }

-- The positions of preloads are valid in a longer list too.
pub preloads_within : {libraries more : ℕ} {preloads : List ℕ} → ArePreloads libraries preloads → libraries ≤ more → ArePreloads more preloads
preloads_within is enough = record {
  few = is.few;
  inside = λ k d lt. omega (arith, is.inside k d lt, enough);
  once = is.once;
}

-- If the positions after a removed entry move up, they can still be the positions of preloads.
pub preloads_closed : {libraries left : ℕ} {preloads : List ℕ} (gone : ℕ) → ArePreloads libraries preloads → gone < libraries → left + 1 ≡ libraries
    → All (λ position. position ≢ gone) preloads → ArePreloads left (map (closed_up gone) preloads)
preloads_closed {libraries = libraries} {left = left} {preloads = preloads} gone is lt less others = record {
  few = omega (arith, is.few, length-map preloads (closed_up gone));
  inside = All-map (λ position. position < left) (closed_up gone) preloads
      (λ k d fits. closed_inside gone left (get_or preloads k d) (others k d fits) (omega (arith, is.inside k d fits, less)) (omega (arith, lt, less)));
  once = λ i j d before fits same.
      let fewer : j < length preloads = omega (arith, fits, length-map preloads (closed_up gone)) in
      let one_of = get_or-map (closed_up gone) preloads i 0 d (omega (arith, before, fewer)) in
      let other = get_or-map (closed_up gone) preloads j 0 d fewer in
      is.once i j 0 before fewer
      (closed_apart gone (get_or preloads i 0) (get_or preloads j 0) (others i 0 (omega (arith, before, fewer))) (others j 0 fewer) (sym one_of ∙ same ∙ other));
}

-- Writing the moved positions over the old ones replaces all of them.
pub closed_there : (gone : ℕ) (preloads now closed : List ℕ) → now ≡ preloads → closed ≡ map (closed_up gone) now → refill (length preloads) preloads closed ≡ map (closed_up gone) preloads
closed_there gone preloads now closed value is =
    let its : closed ≡ map (closed_up gone) preloads = is ∙ ap (map (closed_up gone)) value in
    let count : length closed ≡ length preloads = ap length its ∙ length-map preloads (closed_up gone) in
    ap (λ n. take n (closed ++ drop (length closed) preloads)) (sym count) ∙ take-append_seam closed (drop (length closed) preloads) ∙ its

-- If no preload has the name of the entry at a position, no preload is at this position.
pub others_named : (entries : List PlacedEntry) (preloads name : List ℕ) (gone : ℕ) → All (λ position. (d : PlacedEntry) → name_of (get_or entries position d).entry ≢ name) preloads
    → ((d : PlacedEntry) → name_of (get_or entries gone d).entry ≡ name) → All (λ position. position ≢ gone) preloads
others_named entries preloads name gone none named k d lt same = none k d lt no_entry (ap (λ i. name_of (get_or entries i no_entry).entry) same ∙ named no_entry)
