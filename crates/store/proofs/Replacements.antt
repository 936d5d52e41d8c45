-- A store in which other bytes replace those of a byte string.
use Rattle.std.proofs.Common.{◌≡◌, ◌≢◌, ◌⊎◌, inl, inr, ⊎_elim, nat_eq, ℕ, zero, suc, ◌+◌, ◌*◌, ◌^◌, ◌<◌, ◌≤◌, Bool, if◌then◌else◌, List, [], ◌∷◌}
use Rattle.std.proofs.Common.{◌++◌, length, get_or, set, map, refl, sym, ap, subst, ◌∙◌, arith}
use Rattle.std.specs.Prelude.{bytes_eq}
use Rattle.std.specs.List.{flat_map}
use Rattle.std.proofs.lemmas.Bool.{cases_Bool, false_from_ne_true, false≢true, eqb-true, eq-eqb}
use Rattle.std.proofs.lemmas.List.{length-set, length-take-le, get_or-set_same, get_or-set_other}
use Rattle.std.proofs.lemmas.List.Elements.{All-set}
use Rattle.std.proofs.lemmas.List.Sums.{sum_by-set}
use Rattle.std.proofs.lemmas.Slice.Eq.{bytes_eq-Decides}
use Rattle.sector_disk.specs.Disk.{Sector, sector, sector_bytes}
use Rattle.extents.specs.Extent.{places, sector_count}
use Rattle.extents.specs.Layout.{unused_count}
use Rattle.passes.specs.Bytes.{bytes_at, padded}
use Rattle.roots.specs.declared.root.Root.{Root}
use Rattle.roots.specs.declared.version.Version.TheVariants.{Two}
use Rattle.states.specs.Cost.{catalogues_for, cost}
use Rattle.roots.specs.Root.{version_of, listed_preloads}
use Rattle.roots.specs.Entry.{EntryHasSpelling, SpellsEntry}
use Rattle.roots.proofs.RootLemmas.{listed_sectors-root_over_catalogues}
use Rattle.states.specs.Changes.{libraries_with, with_bytes}
use Rattle.states.specs.State.{Library, State}
use Rattle.store.specs.declared.placed_entry.PlacedEntry.{PlacedEntry}
use Rattle.store.specs.Stands.{HasRoom, HaveOwnNames, catalogues_of, entry_sectors, name_of, extents_of, sectors_of, used, library_of, no_library, names_at}
use Rattle.store.specs.inside.Claimed.{IsClaimedBeside}
use Rattle.store.specs.declared.holds.HeldRow.{HeldRow}
use Rattle.store.specs.Holds.{lone_sectors}
use Rattle.store.specs.inside.Kept.{IsKept}
use Rattle.store.specs.declared.change.Staged.TheVariants.{Put}
use Rattle.store.specs.declared.edit.Edit.TheVariants.{Replace}
use Rattle.store.specs.inside.Change.{IsFollowed}
use Rattle.store.specs.inside.Next.{IsNext, next_root}
use Rattle.store.specs.inside.Prepared.{IsPrepared}
use Rattle.store.specs.inside.Room.{HasPlace}
use Rattle.store.proofs.Anew.{IsMoved, more_unused, moved_apart}
use Rattle.store.proofs.CataloguedEntries.{can_be_catalogued}
use Rattle.store.proofs.Counts.{occurs, occurs-append, occurs-flat_map}
use Rattle.store.proofs.Following.{following_stands}
use Rattle.store.proofs.Frees.{catalogues_enough}
use Rattle.store.proofs.Preloads.{few_in}
use Rattle.store.proofs.Rooms.{cost_is, kept_sectors}
use Rattle.store.proofs.UsedAlone.{no_entry}
use Rattle.store.proofs.Written.{written_bytes}

-- `P` holds of an element of a list with one element replaced, if it holds of the new element and of the others
pub set_cases : {A : Type 0} (P : A → Type 0) (xs : List A) (i k : ℕ) (x d : A) → i < length xs → (k ≡ i → P x) → (k ≢ i → P (get_or xs k d)) → P (get_or (set xs i x) k d)
set_cases P xs i k x d fits at elsewhere = ⊎_elim
    (λ same. subst P (sym (ap (λ n. get_or (set xs i x) n d) same ∙ get_or-set_same xs i x d fits)) (at same))
    (λ other. subst P (sym (get_or-set_other xs i k x d other)) (elsewhere other))
    (same_or_other k i)
  where
    same_or_other : (a b : ℕ) → (a ≡ b) ⊎ (a ≢ b)
    same_or_other a b = ⊎_elim (λ is. inl (eqb-true a b is)) (λ isnt. inr (λ same. false≢true (sym isnt ∙ eq-eqb a b same))) (cases_Bool (nat_eq a b))

name_kept : (entries : List PlacedEntry) (place k : ℕ) (entry d : PlacedEntry) → place < length entries
    → ((e : PlacedEntry) → name_of (get_or entries place e).entry ≡ name_of entry.entry)
    → name_of (get_or (set entries place entry) k d).entry ≡ name_of (get_or entries k d).entry
name_kept entries place k entry d fits same =
    set_cases (λ e. name_of e.entry ≡ name_of (get_or entries k d).entry) entries place k entry d fits
    (λ here. sym (ap (λ n. name_of (get_or entries n d).entry) here ∙ same d))
    (λ _. refl)

pub names_with : (entries : List PlacedEntry) (place : ℕ) (entry : PlacedEntry) → place < length entries
    → ((e : PlacedEntry) → name_of (get_or entries place e).entry ≡ name_of entry.entry) → HaveOwnNames entries
    → HaveOwnNames (set entries place entry)
names_with entries place entry fits same names i j d lt inside = λ equal.
    names i j d lt (omega (arith, inside, length-set entries place entry))
    (sym (name_kept entries place i entry d fits same) ∙ equal ∙ name_kept entries place j entry d fits same)

-- replacing an entry by one with the same name changes no name
name_with : (m : List Sector) (entries : List PlacedEntry) (place : ℕ) (entry : PlacedEntry) (p : ℕ)
    → ((e : PlacedEntry) → name_of (get_or entries place e).entry ≡ name_of entry.entry)
    → (get_or (map (library_of m) (set entries place entry)) p no_library).name ≡ (get_or (map (library_of m) entries) p no_library).name
name_with m [] place entry p same = refl
name_with m (e ∷ entries) zero entry zero same = sym (same e)
name_with m (e ∷ entries) zero entry (suc p) same = refl
name_with m (e ∷ entries) (suc place) entry zero same = refl
name_with m (e ∷ entries) (suc place) entry (suc p) same = name_with m entries place entry p same

pub names_at_with : (m : List Sector) (entries : List PlacedEntry) (place : ℕ) (entry : PlacedEntry) (positions : List ℕ)
    → ((e : PlacedEntry) → name_of (get_or entries place e).entry ≡ name_of entry.entry)
    → names_at (map (library_of m) (set entries place entry)) positions ≡ names_at (map (library_of m) entries) positions
names_at_with m entries place entry [] same = refl
names_at_with m entries place entry (p ∷ positions) same = λ i. name_with m entries place entry p same i ∷ names_at_with m entries place entry positions same i

-- the byte strings of `e` and `entries` with the new bytes under the name, if `found` is whether `e` has the name
abbrev replaces : List Sector → (name bytes : List ℕ) → PlacedEntry → List PlacedEntry → Bool → List Library
replaces m name bytes e entries found = if found then record { name = name; bytes = bytes } ∷ map (library_of m) entries else library_of m e ∷ libraries_with name bytes (map (library_of m) entries)

pub libraries_with_is : (m : List Sector) (name bytes : List ℕ) (entries : List PlacedEntry) (place : ℕ) (entry : PlacedEntry) → place < length entries
    → ((k : ℕ) (d : PlacedEntry) → k < place → name_of (get_or entries k d).entry ≢ name)
    → ((d : PlacedEntry) → name_of (get_or entries place d).entry ≡ name) → record { name = name; bytes = bytes } ≡ library_of m entry
    → libraries_with name bytes (map (library_of m) entries) ≡ map (library_of m) (set entries place entry)
libraries_with_is m name bytes [] place entry fits before at is = absurd (omega (arith, fits))
libraries_with_is m name bytes (e ∷ entries) zero entry fits before at is =
    ap (replaces m name bytes e entries) ((bytes_eq-Decides name (name_of e.entry)).1 (sym (at e)))
    ∙ ap (λ b. b ∷ map (library_of m) entries) is
libraries_with_is m name bytes (e ∷ entries) (suc place) entry fits before at is =
    ap (replaces m name bytes e entries) (false_from_ne_true (bytes_eq name (name_of e.entry)) (λ found. before 0 e (omega arith) (sym ((bytes_eq-Decides name (name_of e.entry)).0 found))))
    ∙ ap (λ l. library_of m e ∷ l) (libraries_with_is m name bytes entries place entry (omega (arith, fits)) (λ k d lt. before (suc k) d (omega (arith, lt))) at is)

-- An entry takes the place of the entry with the same name, in room that was claimed for it and for the catalogues of
-- the list.
pub record IsReplacement (root : Root) (entries : List PlacedEntry) (held : List HeldRow) (layout mid : List Bool) (name : List ℕ) (place : ℕ)
    (catalogues : List ℕ) (put : PlacedEntry) (next : Root) : Type 0 where
  pub kept : IsKept root entries held layout
  pub two : version_of root ≡ Two
  pub claimed : IsClaimedBeside layout mid (sectors_of put ++ catalogues)
  pub fits : EntryHasSpelling put.entry
  pub inside : place < length entries
  pub named : (d : PlacedEntry) → name_of (get_or entries place d).entry ≡ name
  pub its_name : name_of put.entry ≡ name
  pub later : root.generation + 1 < 2 ^ 64
  pub enough : length catalogues ≡ catalogues_for (length entries)
  pub room : cost put.entry.file_length + length catalogues ≤ unused_count layout
  pub is_next : next ≡ next_root root (length entries) catalogues (listed_preloads root)

module _ {root : Root} {entries : List PlacedEntry} {held : List HeldRow} {layout mid : List Bool} {name : List ℕ} {place : ℕ} {catalogues : List ℕ}
    {put : PlacedEntry} {next : Root} (is : IsReplacement root entries held layout mid name place catalogues put next) where
  kept : IsKept root entries held layout
  kept = is.kept

  abbrev old : PlacedEntry
  old = get_or entries place no_entry

  abbrev others : List PlacedEntry
  others = set entries place put

  size : length others ≡ length entries
  size = length-set entries place put

  same_name : (e : PlacedEntry) → name_of (get_or entries place e).entry ≡ name_of put.entry
  same_name e = is.named e ∙ sym is.its_name

  catalogues_are : catalogues_of next ≡ catalogues
  catalogues_are = ap catalogues_of is.is_next ∙ listed_sectors-root_over_catalogues (root.generation + 1) root.sectors (length entries) catalogues (listed_preloads root)

  -- Neither the old entry's sectors nor the old catalogues are used any more.
  pub replacement_moved : IsMoved (used root entries) (sectors_of put ++ catalogues) (used next others) (sectors_of old ++ catalogues_of root)
  replacement_moved = record {
    parts = λ k. omega (
      arith,
      ap (occurs k) catalogues_are,
      occurs-append k (catalogues_of next) (flat_map sectors_of others),
      occurs-append k (used root entries) (sectors_of put ++ catalogues),
      occurs-append k (catalogues_of root) (flat_map sectors_of entries),
      occurs-append k (sectors_of put) catalogues,
      occurs-append k (sectors_of old) (catalogues_of root),
      occurs-flat_map k sectors_of others,
      occurs-flat_map k sectors_of entries,
      sum_by-set (λ (e : PlacedEntry). occurs k (sectors_of e)) entries place put no_entry is.inside,
    );
  }

  -- there is room for the new bytes, even if holders keep the sectors of the old entry
  pub replacement_room : (sectors : ℕ) → root.sectors ≤ sectors + (length (lone_sectors held) + length (sectors_of old)) → HasRoom sectors next.list others
  replacement_room sectors enough = subst (λ r. HasRoom sectors r.list others) (sym is.is_next)
      (omega (
        arith,
        kept_sectors root entries held layout kept,
        catalogues_enough root entries held layout kept is.two,
        ap catalogues_for size,
        is.room,
        is.enough,
        enough,
        cost_is old (kept.entries_fit place no_entry is.inside),
        sum_by-set (λ (e : PlacedEntry). cost e.entry.file_length) entries place put no_entry is.inside,
      ))

  pub replacement_next : IsNext root others catalogues (listed_preloads root) next
  replacement_next = record {
    is_next = is.is_next ∙ ap (λ n. next_root root n catalogues (listed_preloads root)) (sym size);
    later = is.later;
    few = omega (arith, size, kept.counted, few_in root.library_count root.sectors root.list is.two kept.root_fits.list);
    enough = is.enough ∙ ap catalogues_for (sym size);
    fit = All-set (λ (p : PlacedEntry). EntryHasSpelling p.entry) entries place put is.fits kept.entries_fit;
    apart = moved_apart kept is.claimed next others replacement_moved;
    room = replacement_room root.sectors (omega arith);
    names = names_with entries place put is.inside same_name kept.names;
    few_preloads =
        let fits = kept.root_fits.preloads.listed in
        omega (arith, length-take-le root.preload_count root.preloads (omega (arith, fits.size, fits.room)), fits.room);
    preloads_inside = λ k d lt. omega (arith, kept.root_fits.preloads.listed.used k d lt, kept.counted, size);
    preloads_once = kept.root_fits.preloads.distinct;
  }

  -- If the entry has its place, the replacement is prepared.
  pub replacement_prepared : HasPlace root.sectors put catalogues → IsPrepared root entries held mid (record { change = record { staged = Put put catalogues; root = next }; edit = Replace place put })
  replacement_prepared has = record {
    before = layout;
    kept = kept;
    claimed = is.claimed;
    place = (
      has,
      can_be_catalogued root.sectors (length catalogues) next others (omega (arith, kept.root_fits.sectors)) replacement_next.enough replacement_next.few replacement_next.apart,
    );
    catalogues = catalogues;
    preloads = listed_preloads root;
    next = replacement_next;
    moved = replacement_moved;
    room = replacement_room;
  }

  -- The put turns the state into the state with the new bytes.
  pub replacement_put : (now : List Sector) (bytes : List ℕ) (s : State) → put.entry.file_length ≡ length bytes
      → length bytes ≤ 512 * sector_count (extents_of put.entry)
      → IsFollowed Two root entries s now [] (record { staged = Put put catalogues; root = next }) bytes (entry_sectors others) others (with_bytes name bytes s)
  replacement_put now bytes s its_length enough = record {
    unused = more_unused kept is.claimed;
    apart = λ k found there. omega (arith, there.1);
    synced = tt;
    stands = λ m by (written, spelt, listed) still. following_stands replacement_next kept.root_fits Two m entries s (with_bytes name bytes s) by listed
        (All-set (λ (p : PlacedEntry). SpellsEntry (sector m p.at) p.entry) entries place put spelt by.intact.listed.each)
        (ap (with_bytes name bytes) by.is ∙ (λ i. record {
          generation = root.generation + 1;
          libraries = libraries m written i;
          preloads = sym (names_at_with m entries place put (listed_preloads root) same_name) i;
        }));
  }
    where
      libraries : (m : List Sector) → bytes_at m (places (extents_of put.entry)) ≡ padded (sector_bytes * sector_count (extents_of put.entry)) bytes
          → libraries_with name bytes (map (library_of m) entries) ≡ map (library_of m) others
      libraries m written = libraries_with_is m name bytes entries place put is.inside (λ k d lt same. kept.names k place d lt is.inside (same ∙ sym (is.named d))) is.named
          (sym (λ i. record { name = is.its_name i; bytes = written_bytes m put.entry bytes written its_length enough i }))
