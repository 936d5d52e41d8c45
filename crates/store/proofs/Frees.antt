-- The number of sectors that a state leaves free, and the resulting refusals of a put and of an upgrade.
use Rattle.std.proofs.Common.{◌≡◌, ◌≢◌, inl, ⊎_elim, ℕ, suc, ◌+◌, ◌-◌, ◌*◌, ◌<◌, ◌≤◌, Bool, true, false, nat_lt, nat_eq, List, [], ◌∷◌, length, map}
use Rattle.std.proofs.Common.{sum_by, All, IsTrue, Option, Some, None, Result, Ok, Err, OnErr, ◌↔◌, refl, sym, ap, subst, ◌∙◌, arith}
use Rattle.std.specs.Prelude.{Contains, nat_le, if◌then◌else◌}
use Rattle.std.specs.Int.{div_ceil}
use Rattle.std.specs.List.{flat_map}
use Rattle.std.proofs.lemmas.Bool.{false≢true, eqb-true, eq-eqb, ltb-true, ltb-false, leb-true, cases_lt}
use Rattle.std.proofs.lemmas.List.Sums.{sum_by-cons}
use Rattle.std.proofs.lemmas.List.FromFn.{length-map-range_with_len}
use Rattle.std.proofs.lemmas.List.Elements.{All-contains, Contains-append_left, Contains-append_right}
use Rattle.sector_disk.specs.Disk.{Sector, DiskFacts, HoldsNow, HasWholeSectors, IsWhole}
use Rattle.sector_disk.proofs.Mixtures.{whole_mixture}
use Rattle.extents.specs.Limits.{root_sectors}
use Rattle.extents.specs.Extent.{places, sector_count}
use Rattle.extents.specs.Layout.{unused_count}
use Rattle.extents.specs.Longest.{longest_runs}
use Rattle.extents.specs.Used.{layout_of, ClaimsSame}
use Rattle.extents.proofs.UsedLemmas.{layout_of-claims, same-from_used, longest_runs-same}
use Rattle.extents.specs.declared.refusal.TakeRefusal.{TakeRefusal}
use Rattle.extents.specs.declared.refusal.TakeRefusal.TheVariants as take
use Rattle.roots.specs.declared.root.Root.{Root}
use Rattle.roots.specs.declared.version.Version.{Version}
use Rattle.roots.specs.declared.version.Version.TheVariants.{One, Two}
use Rattle.states.specs.Limits.{most_libraries, last_generation}
use Rattle.states.specs.Cost.{catalogues_for, cost, catalogue_cost, free, taken_by}
use Rattle.states.specs.Room.{put_tests}
use Rattle.roots.specs.Root.{version_of}
use Rattle.states.specs.State.{Library, State}
use Rattle.store.specs.declared.placed_entry.PlacedEntry.{PlacedEntry}
use Rattle.store.specs.declared.refusal.StoreRefusal.{StoreRefusal}
use Rattle.store.specs.declared.refusal.StoreRefusal.TheVariants.{Full, Fragmented, GenerationEnd}
use Rattle.store.specs.declared.holds.HeldRow.{HeldRow}
use Rattle.store.specs.Holds.{in_use, lone_sectors}
use Rattle.store.specs.Opened.{Opened, IsAtBy}
use Rattle.store.specs.Stands.{StandsBy, catalogues_of, entries_cost, extents_of, library_of, sectors_of, used}
use Rattle.store.specs.Step.{first_refusal, room_at, refusal_of_put, refusal_of_new, refusal_of_upgrade, refusal_of_take, refusal_of_change, IsAnswer, IsExactAnswer}
use Rattle.store.specs.inside.Kept.{HaveSpellings, IsKept}
pub use Rattle.store.specs.inside.Stored.{IsCounted}
use Rattle.store.proofs.Libraries.{length-library}
pub use Rattle.store.proofs.Libraries.{length-libraries}
use Rattle.store.proofs.Preloads.{enough_in, room_in}
use Rattle.store.proofs.Relistings.{none_in}
use Rattle.store.proofs.Rooms.{kept_sectors}
use Rattle.store.proofs.Anew.{all_usable}

-- the byte strings cost as many sectors as their entries say
pub costs_are : (m : List Sector) (entries : List PlacedEntry) → All IsWhole m → HaveSpellings entries → ((k : ℕ) → Contains (flat_map sectors_of entries) k → k < length m)
    → sum_by (λ library. cost (length library.bytes)) (map (library_of m) entries) ≡ entries_cost entries
costs_are m [] whole fit inside = refl
costs_are m (e ∷ entries) whole fit inside =
    let here = ap cost (length-library m e whole (fit 0 e (omega arith))
    (λ k found. inside k (Contains-append_left (sectors_of e) (flat_map sectors_of entries) k
    (Contains-append_right (e.at ∷ []) (places (extents_of e.entry)) k found)))) in
    omega (
      arith,
      sum_by-cons (λ (library : Library). cost (length library.bytes)) (library_of m e) (map (library_of m) entries),
      sum_by-cons (λ (placed : PlacedEntry). cost placed.entry.file_length) e entries,
      here,
      costs_are m entries whole (λ k d lt. fit (suc k) d (omega (arith, lt))) (λ k found. inside k (Contains-append_right (sectors_of e) (flat_map sectors_of entries) k found)),
    )

-- the number of sectors that a state takes in version 2, whichever version its root has
taken_is : (version : Version) (m : List Sector) (root : Root) (entries : List PlacedEntry) (s : State) → HaveSpellings entries → All IsWhole m → StandsBy version m root entries s
    → taken_by s ≡ entries_cost entries + 2 * catalogues_for (length entries)
taken_is version m root entries s fit whole by =
    let inside : (k : ℕ) → Contains (flat_map sectors_of entries) k → k < length m =
    λ k found. (All-contains (λ n. (root_sectors ≤ n) × (n < length m)) (used root entries) k by.intact.apart.inside
    (Contains-append_right (catalogues_of root) (flat_map sectors_of entries) k found)).1 in
    let costs = costs_are m entries whole fit inside in
    ap taken_by by.is ∙ omega (arith, costs, length-libraries m entries)

module _ (root : Root) (entries : List PlacedEntry) (held : List HeldRow) (layout : List Bool) (kept : IsKept root entries held layout) where
  -- a root of version 2 lists as many catalogues as its byte strings need
  pub catalogues_enough : version_of root ≡ Two → length (catalogues_of root) ≡ catalogues_for (length entries)
  catalogues_enough two = enough_in root.library_count root.sectors root.list two kept.root_fits.list ∙ ap catalogues_for (sym kept.counted)

  -- The sectors that aren't in use are those that are unused in the layout.
  pub same_layout : ClaimsSame (layout_of root.sectors (in_use root entries held)) layout
  same_layout =
      let sectors = in_use root entries held in
      let claims = layout_of-claims root.sectors sectors (λ k d lt. (all_usable kept k d lt).1) in
      same-from_used (layout_of root.sectors sectors) layout sectors (length-map-range_with_len _ 0 root.sectors ∙ sym kept.size) claims kept.claimed.claims

  -- The longest unused runs of the kept layout are those of the layout in which exactly the sectors in use are claimed.
  pub longest_is : sector_count (longest_runs (layout_of root.sectors (in_use root entries held))) ≡ sector_count (longest_runs layout)
  longest_is = ap sector_count (longest_runs-same (layout_of root.sectors (in_use root entries held)) layout same_layout)

  -- The sectors that a state of version 2 leaves free beside what is held, plus one set of catalogues, are the unused
  -- sectors of the layout.
  pub free_is : (m : List Sector) (s : State) → All IsWhole m → StandsBy Two m root entries s
      → free (root.sectors - length (lone_sectors held)) s + catalogues_for (length entries) ≡ unused_count layout
  free_is m s whole by = omega (
    arith,
    taken_is Two m root entries s kept.entries_fit whole by,
    kept_sectors root entries held layout kept,
    catalogues_enough by.of_version,
    room_in (root.sectors - length (lone_sectors held)) root.list entries by.of_version kept.room,
  )

  -- If nothing is held, there is no room for the catalogues of a state of version 1 twice exactly if the state takes
  -- too many sectors in version 2.
  pub old_free_is : held ≡ [] → (m : List Sector) (s : State) → All IsWhole m → StandsBy One m root entries s
      → (unused_count layout < 2 * catalogues_for (length entries)) ↔ (root.sectors < root_sectors + taken_by s)
  old_free_is unheld m s whole by =
      let taken = taken_is One m root entries s kept.entries_fit whole by in
      let all = kept_sectors root entries held layout kept in
      let no_catalogues : length (catalogues_of root) ≡ 0 = ap length (none_in root.list by.of_version) in
      let alone : length (lone_sectors held) ≡ 0 = ap (λ l. length (lone_sectors l)) unheld in
      (λ lt. omega (arith, lt, taken, all, no_catalogues, alone), λ lt. omega (arith, lt, taken, all, no_catalogues, alone))

pub if_no : {A : Type 0} (b : Bool) (x y : A) → (b ≡ true → ⊥) → (if b then x else y) ≡ y
if_no true x y isnt = absurd (isnt refl)
if_no false x y isnt = refl

pub if_yes : {A : Type 0} (b : Bool) (x y : A) → (b ≡ false → ⊥) → (if b then x else y) ≡ x
if_yes true x y isnt = refl
if_yes false x y isnt = absurd (isnt refl)

-- the first refusal of a put of bytes for which `more` additional sectors are taken
abbrev pub refusal_of_bytes : (sectors longest more : ℕ) → State → List ℕ → Option StoreRefusal
refusal_of_bytes sectors longest more s bytes = first_refusal (put_tests (room_at sectors longest s) more (length bytes))

-- The first refusal, as determined by the numbers of the state.
module _ (sectors longest more : ℕ) (s : State) (bytes : List ℕ) (usable : s.generation ≢ last_generation) where
  abbrev needed : ℕ
  needed = cost (length bytes) + more

  abbrev sector_need : ℕ
  sector_need = cost (length bytes) - 1

  going_on : nat_eq s.generation last_generation ≡ true → ⊥
  going_on is = usable (eqb-true s.generation last_generation is)

  pub bytes_full : free sectors s < needed → refusal_of_bytes sectors longest more s bytes ≡ Some Full
  bytes_full room =
      if_no (nat_eq s.generation last_generation) _ _ going_on
      ∙ if_yes (nat_lt (free sectors s) needed) _ _ (λ is. omega (arith, ltb-false (free sectors s) needed is, room))

  pub bytes_fragmented : needed ≤ free sectors s → longest < sector_need → refusal_of_bytes sectors longest more s bytes ≡ Some Fragmented
  bytes_fragmented room runs =
      if_no (nat_eq s.generation last_generation) _ _ going_on
      ∙ if_no (nat_lt (free sectors s) needed) _ _ (λ is. omega (arith, ltb-true (free sectors s) needed is, room))
      ∙ if_yes (nat_lt longest sector_need) _ _ (λ is. omega (arith, ltb-false longest sector_need is, runs))

  pub bytes_accepted : needed ≤ free sectors s → sector_need ≤ longest → refusal_of_bytes sectors longest more s bytes ≡ None
  bytes_accepted room runs =
      if_no (nat_eq s.generation last_generation) _ _ going_on
      ∙ if_no (nat_lt (free sectors s) needed) _ _ (λ is. omega (arith, ltb-true (free sectors s) needed is, room))
      ∙ if_no (nat_lt longest sector_need) _ _ (λ is. omega (arith, ltb-true longest sector_need is, runs))

-- no Ok is equal to an Err
pub ok_or_err : {T E : Type 0} {x : T} {e : E} → ◌≡◌ {A = Result T E} (Ok x) (Err e) → ⊥
ok_or_err is = subst (λ r. OnErr r ⊥) is tt

-- A refusal to take sectors is the first refusal of these bytes.
module _ {T : Type 0} (sectors longest more : ℕ) (s : State) (bytes : List ℕ) (usable : s.generation ≢ last_generation) where
  pub bytes_refused : (e : TakeRefusal) → (◌≡◌ {A = Result T TakeRefusal} (Err e) (Err take.Full) ↔ (free sectors s < cost (length bytes) + more))
      → (◌≡◌ {A = Result T TakeRefusal} (Err e) (Err take.Fragmented) ↔ ((cost (length bytes) + more ≤ free sectors s) × (longest < cost (length bytes) - 1)))
      → refusal_of_bytes sectors longest more s bytes ≡ Some (refusal_of_take e)
  bytes_refused take.Full full fragmented = bytes_full sectors longest more s bytes usable (full.0 refl)
  bytes_refused take.Fragmented full fragmented = let both = fragmented.0 refl in bytes_fragmented sectors longest more s bytes usable both.0 both.1

  pub bytes_taken : (x : T) → (◌≡◌ {A = Result T TakeRefusal} (Ok x) (Err take.Full) ↔ (free sectors s < cost (length bytes) + more))
      → (◌≡◌ {A = Result T TakeRefusal} (Ok x) (Err take.Fragmented) ↔ ((cost (length bytes) + more ≤ free sectors s) × (longest < cost (length bytes) - 1)))
      → refusal_of_bytes sectors longest more s bytes ≡ None
  bytes_taken x full fragmented = ⊎_elim
      (λ lt. absurd (ok_or_err (full.1 lt)))
      (λ le. ⊎_elim
      (λ lt. absurd (ok_or_err (fragmented.1 (le, lt))))
      (λ le'. bytes_accepted sectors longest more s bytes usable le le')
      (cases_lt longest (cost (length bytes) - 1)))
      (cases_lt (free sectors s) (cost (length bytes) + more))

pub new_as_put : (sectors longest : ℕ) (s : State) (bytes : List ℕ) → length s.libraries < most_libraries
    → refusal_of_new sectors longest s bytes ≡ refusal_of_bytes sectors longest (catalogue_cost (length s.libraries)) s bytes
new_as_put sectors longest s bytes few = if_no (nat_le most_libraries (length s.libraries)) _ _ (λ is. omega (arith, leb-true most_libraries (length s.libraries) is, few))

pub answers_take : (e : TakeRefusal) → IsAnswer (Some (refusal_of_take e)) (Err (refusal_of_take e))
answers_take take.Full = inl refl
answers_take take.Fragmented = inl refl

pub answers_take_exactly : (e : TakeRefusal) → IsExactAnswer (Some (refusal_of_take e)) (Err (refusal_of_take e))
answers_take_exactly take.Full = refl
answers_take_exactly take.Fragmented = refl

pub change_refused : (s : State) → s.generation ≡ last_generation → refusal_of_change s ≡ Some GenerationEnd
change_refused s last = if_yes (nat_eq s.generation last_generation) _ _ (λ isnt. false≢true (sym isnt ∙ eq-eqb s.generation last_generation last))

-- An upgrade is refused at the last generation, and if there is no room for the catalogues twice.
module _ (sectors : ℕ) (s : State) where
  pub upgrade_full : s.generation ≢ last_generation → sectors < root_sectors + taken_by s → refusal_of_upgrade sectors s ≡ Some Full
  upgrade_full usable many =
      if_no (nat_eq s.generation last_generation) _ _ (λ is. usable (eqb-true s.generation last_generation is))
      ∙ if_yes (nat_lt sectors (root_sectors + taken_by s)) _ _ (λ is. omega (arith, ltb-false sectors (root_sectors + taken_by s) is, many))

  pub upgrade_accepted : s.generation ≢ last_generation → root_sectors + taken_by s ≤ sectors → refusal_of_upgrade sectors s ≡ None
  upgrade_accepted usable room =
      if_no (nat_eq s.generation last_generation) _ _ (λ is. usable (eqb-true s.generation last_generation is))
      ∙ if_no (nat_lt sectors (root_sectors + taken_by s)) _ _ (λ is. omega (arith, ltb-true sectors (root_sectors + taken_by s) is, room))

module _ {D : Type 0} (facts : D → DiskFacts) (holds : (disk : D) → IsTrue (facts disk).honest → HoldsNow (facts disk))
    (whole : (disk : D) → IsTrue (facts disk).honest → HasWholeSectors (facts disk)) where
  module _ {version : Version} {store : Opened D} {s : State} (at : IsAtBy version facts store s) where
    by : StandsBy version (facts store.disk).now store.root store.entries s
    by = at.stands (facts store.disk).now (holds store.disk at.honest)

    whole_now : All IsWhole (facts store.disk).now
    whole_now = whole_mixture (whole store.disk at.honest) (facts store.disk).time (omega arith) (facts store.disk).now (holds store.disk at.honest)

    pub generation_of : s.generation ≡ store.root.generation
    generation_of = ap (λ t. t.generation) by.is

    pub count_of : length s.libraries ≡ length store.entries
    count_of = ap (λ t. length t.libraries) by.is ∙ length-libraries (facts store.disk).now store.entries

  -- A store, and what contracts see of it.
  module _ {store view : Opened D} {layout : List Bool} {s : State} (is : view ≡ store) (kept : IsKept view.root view.entries view.held layout) where
    pub facts_of : IsAtBy Two facts store s → IsCounted view.root view.entries view.held layout s
    facts_of at_store =
        let at : IsAtBy Two facts view s = subst (λ o. IsAtBy Two facts o s) (sym is) at_store in
        record {
          generation = generation_of at;
          count = count_of at;
          room = free_is view.root view.entries view.held layout kept (facts view.disk).now s (whole_now at) (by at);
          longest = longest_is view.root view.entries view.held layout kept;
        }

-- The result of taking room is right for a layout, if bytes need `sectors` sectors and `all` sectors are needed
-- together.
pub record Takes {T : Type 0} (layout : List Bool) (sectors all : ℕ) (result : Result T TakeRefusal) : Type 0 where
  pub full : (result ≡ Err take.Full) ↔ (unused_count layout < all)
  pub fragmented : (result ≡ Err take.Fragmented) ↔ ((all ≤ unused_count layout) × (sector_count (longest_runs layout) < sectors))

-- The first refusal of bytes that replace others or are put after the others, as determined by the result of taking
-- room.
module _ {root : Root} {entries : List PlacedEntry} {held : List HeldRow} {layout : List Bool} {s : State}
    (counted : IsCounted root entries held layout s) (bytes : List ℕ) (usable : root.generation ≢ last_generation) where
  abbrev all_sectors : ℕ
  all_sectors = root.sectors - length (lone_sectors held)

  abbrev longest_in : ℕ
  longest_in = sector_count (longest_runs layout)

  usable_state : s.generation ≢ last_generation
  usable_state last = usable (sym counted.generation ∙ last)

  module _ {T : Type 0} {all : ℕ} {result : Result T TakeRefusal} (more : ℕ)
      (enough : all ≡ cost (length bytes) + more + catalogues_for (length entries)) (takes : Takes layout (div_ceil (length bytes) 512) all result) where
    full_is : (result ≡ Err take.Full) ↔ (free all_sectors s < cost (length bytes) + more)
    full_is = (
      λ of. omega (arith, takes.full.0 of, counted.room, enough),
      λ lt. takes.full.1 (omega (arith, lt, counted.room, enough)),
    )

    fragmented_is : (result ≡ Err take.Fragmented) ↔ ((cost (length bytes) + more ≤ free all_sectors s) × (longest_in < cost (length bytes) - 1))
    fragmented_is = (
      λ of. let both = takes.fragmented.0 of in (omega (arith, both.0, counted.room, enough), omega (arith, both.1)),
      λ both. takes.fragmented.1 (omega (arith, both.0, counted.room, enough), omega (arith, both.1)),
    )

  module _ {count : ℕ} where
    module _ (same : count ≡ catalogues_for (length entries)) where
      over_enough : div_ceil (length bytes) 512 + 1 + count + 0 ≡ cost (length bytes) + 0 + catalogues_for (length entries)
      over_enough = omega (arith, same)

      pub over_refused : {T : Type 0} (e : TakeRefusal) → Takes {T = T} layout (div_ceil (length bytes) 512) (div_ceil (length bytes) 512 + 1 + count + 0) (Err e)
          → refusal_of_put all_sectors longest_in s bytes ≡ Some (refusal_of_take e)
      over_refused e takes = bytes_refused all_sectors longest_in 0 s bytes usable_state e (full_is 0 over_enough takes) (fragmented_is 0 over_enough takes)

      pub over_taken : {T : Type 0} {x : T} → Takes layout (div_ceil (length bytes) 512) (div_ceil (length bytes) 512 + 1 + count + 0) (Ok x)
          → refusal_of_put all_sectors longest_in s bytes ≡ None
      over_taken {x = x} takes = bytes_taken all_sectors longest_in 0 s bytes usable_state x (full_is 0 over_enough takes) (fragmented_is 0 over_enough takes)

    module _ {spare : ℕ} (few : length entries < most_libraries) (more : count ≡ catalogues_for (length entries + 1)) (rest : spare ≡ count - catalogues_for (length entries)) where
      new_enough : div_ceil (length bytes) 512 + 1 + count + spare ≡ cost (length bytes) + catalogue_cost (length s.libraries) + catalogues_for (length entries)
      new_enough = omega (arith, more, rest, counted.count)

      first_is : refusal_of_new all_sectors longest_in s bytes ≡ refusal_of_bytes all_sectors longest_in (catalogue_cost (length s.libraries)) s bytes
      first_is = new_as_put all_sectors longest_in s bytes (omega (arith, few, counted.count))

      pub new_refused : {T : Type 0} (e : TakeRefusal) → Takes {T = T} layout (div_ceil (length bytes) 512) (div_ceil (length bytes) 512 + 1 + count + spare) (Err e)
          → refusal_of_new all_sectors longest_in s bytes ≡ Some (refusal_of_take e)
      new_refused e takes = first_is ∙ bytes_refused all_sectors longest_in (catalogue_cost (length s.libraries)) s bytes usable_state e
          (full_is (catalogue_cost (length s.libraries)) new_enough takes) (fragmented_is (catalogue_cost (length s.libraries)) new_enough takes)

      pub new_taken : {T : Type 0} {x : T} → Takes layout (div_ceil (length bytes) 512) (div_ceil (length bytes) 512 + 1 + count + spare) (Ok x)
          → refusal_of_new all_sectors longest_in s bytes ≡ None
      new_taken {x = x} takes = first_is ∙ bytes_taken all_sectors longest_in (catalogue_cost (length s.libraries)) s bytes usable_state x
          (full_is (catalogue_cost (length s.libraries)) new_enough takes) (fragmented_is (catalogue_cost (length s.libraries)) new_enough takes)

-- The answers if nothing is refused.
pub exactly_done : {first : Option StoreRefusal} → first ≡ None → IsExactAnswer first (Ok tt)
exactly_done is = subst (λ first. IsExactAnswer first (Ok tt)) (sym is) tt

pub answers_done : {first : Option StoreRefusal} → first ≡ None → IsAnswer first (Ok tt)
answers_done is = subst (λ first. IsAnswer first (Ok tt)) (sym is) tt
