-- A store with one more byte string.
use Rattle.std.proofs.Common.{◌≡◌, ◌≢◌, ◌↔◌, ⊎_elim, ℕ, suc, ◌+◌, ◌-◌, ◌*◌, ◌^◌, ◌<◌, ◌≤◌, Bool, List, [], ◌∷◌, ◌++◌, length, get_or, map, All, Result, Ok, Err, refl, sym, ap, subst, ◌∙◌, arith}
use Rattle.std.specs.Prelude.{AllPairs}
use Rattle.std.specs.List.{flat_map}
use Rattle.std.proofs.lemmas.Bool.{cases_lt}
use Rattle.std.proofs.lemmas.Grind.{flat_map-append}
use Rattle.std.proofs.lemmas.List.{append-nil, length-append, length-take-le, get_or_append_left, get_or-append_right, map_push}
use Rattle.std.proofs.lemmas.List.Elements.{All-push}
use Rattle.std.proofs.lemmas.List.Sums.{sum_by_push}
use Rattle.sector_disk.specs.Disk.{Sector, sector, sector_bytes}
use Rattle.extents.specs.declared.extent.Extent.{Extent}
use Rattle.extents.specs.declared.refusal.TakeRefusal.{TakeRefusal}
use Rattle.extents.specs.declared.refusal.TakeRefusal.TheVariants as take
use Rattle.extents.specs.Extent.{places, sector_count, IsApart}
use Rattle.extents.specs.Layout.{unused_count}
use Rattle.passes.specs.Bytes.{IsOnDisk, bytes_at, padded}
use Rattle.roots.specs.declared.root.Root.{Root}
use Rattle.roots.specs.declared.version.Version.TheVariants.{Two}
use Rattle.states.specs.Limits.{most_libraries}
use Rattle.states.specs.Cost.{catalogues_for, cost}
use Rattle.roots.specs.Root.{listed_preloads}
use Rattle.roots.specs.Entry.{EntryHasSpelling, SpellsEntry}
use Rattle.roots.proofs.RootLemmas.{listed_sectors-root_over_catalogues}
use Rattle.states.specs.Changes.{with_new}
use Rattle.states.specs.State.{Library, State}
use Rattle.store.specs.declared.placed_entry.PlacedEntry.{PlacedEntry}
use Rattle.store.specs.Stands.{HasRoom, HaveOwnNames, catalogues_of, entry_sectors, name_of, extents_of, sectors_of, used, library_of, no_library, names_at}
use Rattle.store.specs.inside.Claimed.{IsClaimedBeside, IsUsable}
use Rattle.store.specs.declared.holds.HeldRow.{HeldRow}
use Rattle.store.specs.Holds.{lone_sectors}
use Rattle.store.specs.inside.Kept.{IsKept}
use Rattle.store.specs.declared.change.Staged.TheVariants.{Put}
use Rattle.store.specs.declared.edit.Edit.TheVariants.{Append}
use Rattle.store.specs.inside.Change.{IsFollowed}
use Rattle.store.specs.inside.Next.{IsNext, next_root}
use Rattle.store.specs.inside.Prepared.{IsPrepared}
use Rattle.store.specs.inside.Room.{HasPlace}
use Rattle.store.proofs.Anew.{IsMoved, more_unused, more_inside, more_once, moved_apart}
use Rattle.store.proofs.CataloguedEntries.{can_be_catalogued}
use Rattle.store.proofs.Counts.{occurs, occurs-append}
use Rattle.store.proofs.Following.{following_stands}
use Rattle.store.proofs.Frees.{ok_or_err}
use Rattle.store.proofs.Libraries.{length-libraries}
use Rattle.store.proofs.Rooms.{kept_sectors}
use Rattle.store.proofs.Written.{written_bytes}

-- One more entry, in room that was claimed for it and for the catalogues of the list that has it, and the root that
-- follows.
pub record IsNew (root : Root) (entries : List PlacedEntry) (held : List HeldRow) (old new : List Bool) (catalogues : List ℕ) (put : PlacedEntry) (next : Root) : Type 0 where
  pub kept : IsKept root entries held old
  pub claimed : IsClaimedBeside old new (sectors_of put ++ catalogues)
  pub fits : EntryHasSpelling put.entry
  pub named : All (λ other. name_of other.entry ≢ name_of put.entry) entries
  pub few : length entries < most_libraries
  pub later : root.generation + 1 < 2 ^ 64
  pub enough : length catalogues ≡ catalogues_for (length entries + 1)
  pub room : cost put.entry.file_length + length catalogues + (length catalogues - length (catalogues_of root)) ≤ unused_count old
  pub is_next : next ≡ next_root root (length entries + 1) catalogues (listed_preloads root)

-- if room was taken, at least `needed` sectors were free
pub free_room : {T : Type 0} {x : T} {free needed : ℕ} → (◌≡◌ {A = Result T TakeRefusal} (Ok x) (Err take.Full) ↔ (free < needed)) → needed ≤ free
free_room {free = free} {needed = needed} full = ⊎_elim (λ few. absurd (ok_or_err (full.1 few))) (λ enough. enough) (cases_lt free needed)

-- An entry and catalogues in room that was claimed for them have their places.
pub room_place : {root : Root} {entries : List PlacedEntry} {held : List HeldRow} {layout new : List Bool} {catalogues : List ℕ} {put : PlacedEntry}
    {extents : List Extent} {n : ℕ} → IsKept root entries held layout → IsClaimedBeside layout new (sectors_of put ++ catalogues)
    → EntryHasSpelling put.entry
    → extents_of put.entry ≡ extents → All (IsOnDisk (length layout)) extents → AllPairs IsApart extents → n ≡ root.sectors → HasPlace n put catalogues
room_place {layout = layout} {catalogues = catalogues} {put = put} {extents = extents} {n = n} kept claimed fits its inside apart size = record {
  spelling = fits;
  on_disk = subst (All (IsOnDisk n)) (sym its) (subst (λ k. All (IsOnDisk k) extents) (kept.size ∙ sym size) inside);
  apart = subst (AllPairs IsApart) (sym its) apart;
  inside = subst (λ k. All (IsUsable k) (sectors_of put ++ catalogues)) (sym size) (more_inside kept claimed);
  once = more_once kept claimed;
}

-- an element of a list with `x` after the others is one of the others, or `x`
last_cases : {A : Type 0} (P : A → Type 0) (xs : List A) (x : A) (i : ℕ) (d : A) → i < length (xs ++ x ∷ []) → (i < length xs → P (get_or xs i d))
    → (i ≡ length xs → P x) → P (get_or (xs ++ x ∷ []) i d)
last_cases P xs x i d lt before at = ⊎_elim
    (λ lt'. subst P (sym (get_or_append_left xs (x ∷ []) d i lt')) (before lt'))
    (λ le.
    let is : i ≡ length xs = omega (arith, lt, le, length-append xs (x ∷ [])) in
    let first : i - length xs ≡ 0 = omega (arith, is) in
    subst P (sym (get_or-append_right xs (x ∷ []) (length xs) i d refl (omega (arith, is)) ∙ ap (λ n. get_or (x ∷ []) n d) first)) (at is))
    (cases_lt i (length xs))

-- if a new name is put after others, the names are still different
pub names_more : (entries : List PlacedEntry) (entry : PlacedEntry) → HaveOwnNames entries → All (λ other. name_of other.entry ≢ name_of entry.entry) entries → HaveOwnNames (entries ++ entry ∷ [])
names_more entries entry names new i j d lt fits =
    last_cases (λ b. name_of (get_or (entries ++ entry ∷ []) i d).entry ≢ name_of b.entry) entries entry j d fits
    (λ before. subst (λ a. name_of a.entry ≢ name_of (get_or entries j d).entry) (sym (get_or_append_left entries (entry ∷ []) d i (omega (arith, lt, before)))) (names i j d lt before))
    (λ last. subst (λ a. name_of a.entry ≢ name_of entry.entry) (sym (get_or_append_left entries (entry ∷ []) d i (omega (arith, lt, last)))) (new i d (omega (arith, lt, last))))

-- the positions of earlier byte strings keep their names when one more byte string is put
pub names_at_more : (libraries : List Library) (library : Library) (positions : List ℕ) → All (λ position. position < length libraries) positions
    → names_at (libraries ++ library ∷ []) positions ≡ names_at libraries positions
names_at_more libraries library [] inside = refl
names_at_more libraries library (p ∷ positions) inside =
    let here : get_or (libraries ++ library ∷ []) p no_library ≡ get_or libraries p no_library = get_or_append_left libraries (library ∷ []) no_library p (inside 0 0 (omega arith)) in
    let there = names_at_more libraries library positions (λ k d lt. inside (suc k) d (omega (arith, lt))) in
    λ i. (here i).name ∷ there i

module _ {root : Root} {entries : List PlacedEntry} {held : List HeldRow} {layout new : List Bool} {catalogues : List ℕ} {put : PlacedEntry}
    {next : Root} (is_new : IsNew root entries held layout new catalogues put next) where
  kept : IsKept root entries held layout
  kept = is_new.kept

  abbrev others : List PlacedEntry
  others = entries ++ put ∷ []

  count_is : length others ≡ length entries + 1
  count_is = length-append entries (put ∷ [])

  catalogues_are : catalogues_of next ≡ catalogues
  catalogues_are = ap catalogues_of is_new.is_next ∙ listed_sectors-root_over_catalogues (root.generation + 1) root.sectors (length entries + 1) catalogues (listed_preloads root)

  used_is : used next others ≡ catalogues ++ (flat_map sectors_of entries ++ sectors_of put)
  used_is = (λ i. catalogues_are i ++ flat_map-append sectors_of entries (put ∷ []) i)
      ∙ ap (λ l. catalogues ++ (flat_map sectors_of entries ++ l)) (append-nil (sectors_of put))

  -- the old catalogues are no longer used
  pub new_moved : IsMoved (used root entries) (sectors_of put ++ catalogues) (used next others) (catalogues_of root)
  new_moved = record {
    parts = λ k. omega (
      arith,
      ap (occurs k) used_is,
      occurs-append k catalogues (flat_map sectors_of entries ++ sectors_of put),
      occurs-append k (flat_map sectors_of entries) (sectors_of put),
      occurs-append k (used root entries) (sectors_of put ++ catalogues),
      occurs-append k (catalogues_of root) (flat_map sectors_of entries),
      occurs-append k (sectors_of put) catalogues,
    );
  }

  -- there is room for the new bytes, beside what is held
  pub new_room : (sectors : ℕ) → root.sectors ≤ sectors + length (lone_sectors held) → HasRoom sectors next.list others
  new_room sectors enough = subst (λ r. HasRoom sectors r.list others) (sym is_new.is_next)
      (omega (
        arith,
        kept_sectors root entries held layout kept,
        is_new.room,
        is_new.enough,
        count_is,
        enough,
        sum_by_push (λ (p : PlacedEntry). cost p.entry.file_length) entries put,
      ))

  pub new_next : IsNext root others catalogues (listed_preloads root) next
  new_next = record {
    is_next = is_new.is_next ∙ ap (λ n. next_root root n catalogues (listed_preloads root)) (sym count_is);
    later = is_new.later;
    few = omega (arith, count_is, is_new.few);
    enough = is_new.enough ∙ ap catalogues_for (sym count_is);
    fit = All-push (λ (p : PlacedEntry). EntryHasSpelling p.entry) entries put kept.entries_fit is_new.fits;
    apart = moved_apart kept is_new.claimed next others new_moved;
    room = new_room root.sectors (omega arith);
    names = names_more entries put kept.names is_new.named;
    few_preloads = omega (
      arith,
      length-take-le root.preload_count root.preloads
          (omega (arith, kept.root_fits.preloads.listed.size, kept.root_fits.preloads.listed.room)),
      kept.root_fits.preloads.listed.room,
    );
    preloads_inside = λ k d lt. omega (arith, kept.root_fits.preloads.listed.used k d lt, kept.counted, count_is);
    preloads_once = kept.root_fits.preloads.distinct;
  }

  -- the put is prepared, if the entry has its place
  pub new_prepared : HasPlace root.sectors put catalogues → IsPrepared root entries held new (record { change = record { staged = Put put catalogues; root = next }; edit = Append put })
  new_prepared place = record {
    before = layout;
    kept = kept;
    claimed = is_new.claimed;
    place = (
      place,
      can_be_catalogued root.sectors (length catalogues) next others (omega (arith, kept.root_fits.sectors)) new_next.enough new_next.few new_next.apart,
    );
    catalogues = catalogues;
    preloads = listed_preloads root;
    next = new_next;
    moved = new_moved;
    room = λ sectors enough. new_room sectors (omega (arith, enough));
  }

  -- the put turns the state into the state with one more byte string
  pub new_put : (now : List Sector) (name bytes : List ℕ) (s : State) → name_of put.entry ≡ name → put.entry.file_length ≡ length bytes
      → length bytes ≤ 512 * sector_count (extents_of put.entry)
      → IsFollowed Two root entries s now [] (record { staged = Put put catalogues; root = next }) bytes (entry_sectors others) others (with_new name bytes s)
  new_put now name bytes s its_name its_length enough = record {
    unused = more_unused kept is_new.claimed;
    apart = λ k found there. omega (arith, there.1);
    synced = tt;
    stands = λ m by (written, spelt, listed) still. following_stands new_next kept.root_fits Two m entries s (with_new name bytes s) by listed
        (All-push (λ (p : PlacedEntry). SpellsEntry (sector m p.at) p.entry) entries put by.intact.listed.each spelt)
        (ap (with_new name bytes) by.is ∙ (λ i. record {
          generation = root.generation + 1;
          libraries = libraries m written i;
          preloads = preloads m i;
        }));
  }
    where
      libraries : (m : List Sector) → bytes_at m (places (extents_of put.entry)) ≡ padded (sector_bytes * sector_count (extents_of put.entry)) bytes
          → map (library_of m) entries ++ record { name = name; bytes = bytes } ∷ [] ≡ map (library_of m) others
      libraries m written =
          let library : record { name = name; bytes = bytes } ≡ library_of m put = sym (λ i. record { name = its_name i; bytes = written_bytes m put.entry bytes written its_length enough i }) in
          ap (λ b. map (library_of m) entries ++ b ∷ []) library ∙ sym (map_push (library_of m) entries put)

      preloads : (m : List Sector) → names_at (map (library_of m) entries) (listed_preloads root) ≡ names_at (map (library_of m) others) (listed_preloads root)
      preloads m = sym (ap (λ l. names_at l (listed_preloads root)) (map_push (library_of m) entries put)
          ∙ names_at_more (map (library_of m) entries) (library_of m put) (listed_preloads root)
          (λ k d lt. omega (arith, kept.root_fits.preloads.listed.used k d lt, length-libraries m entries, kept.counted)))
