-- Files are read one after the other while the queue of a load order is walked.
use Rattle.std.proofs.Common.{◌≡◌, ℕ, zero, suc, ◌+◌, ◌-◌, ◌<◌, ◌≤◌, List, [], ◌∷◌, ◌++◌, length, map, take, drop, get_or, nat_eq, sum_by, Option, None}
use Rattle.std.proofs.Common.{refl, sym, ap, subst, ◌∙◌, arith, false, append-nil}
use Rattle.std.specs.Prelude.{All}
use Rattle.std.specs.List.{IsDistinct, filter_map, flat_map, find}
use Rattle.std.specs.Option.{option_or}
use Rattle.std.proofs.Math.Seq.{take-length}
use Rattle.std.proofs.lemmas.Bool.{eqb-false}
use Rattle.std.proofs.lemmas.Grind.{flat_map-append}
use Rattle.std.proofs.lemmas.List.{length-map, length-take, get_or-map, map-append, map_push, take_more, length_push}
use Rattle.std.proofs.lemmas.List.Elements.{All-get_or, All-nil, All-cons, All-head, All-tail}
use Rattle.std.proofs.lemmas.List.Folds.{find-append}
use Rattle.std.proofs.lemmas.List.Sums.{sum_by-append, sum_by-cons}
use Rattle.std.proofs.lemmas.Map.Keys.{apart_from_distinct}
use Rattle.elf_dynamic.specs.Strings.{needed}
use Rattle.scope.specs.LoadOrder.{Need, available, needs_of, level_0, object_at, place_of, load_order, load_places, missing, names_of, needed_by, is_missing}
use Rattle.scope.specs.Objects.{Named, program_name}
use Rattle.scope.specs.inside.Growing.{grown}
use Rattle.scope.specs.Queue.{AreApart}
use Rattle.scope.proofs.Apart.{few, distinct-level_0}
use Rattle.scope.proofs.Growing.{grown_is, grown-take, grown-longer}
use Rattle.scope.proofs.LoadOrderLemmas.{low-level_0}
use Rattle.scope.proofs.Naming.{object_later}
use Rattle.scope.proofs.Queueing.{IsReached, reached-more, places-end, order-behind, order-whole}
use Rattle.scope.proofs.Reaching.{at-begins, reached-at, reached-start}
use Rattle.store.specs.Stands.{no_library}
use Rattle.requests.specs.Binding.{object_of, objects, preload_numbers}
use Rattle.requests.specs.Library.{IsLibrary}
use Rattle.states.specs.State.{Library, State}
use Rattle.registry.specs.Binding.{bind_sectors, data_sectors}
use Rattle.registry.specs.Untested.{ReadsLibraries}
use Rattle.registry.specs.inside.Walked.{more_needs, walked, next_place, IsWalked}
use Rattle.registry.specs.declared.needs.Needs.{Needs}

-- the program as an object, and the needs before the program was examined
abbrev object_of_program : List ℕ → Named
object_of_program program = record { name = program_name; file = program }

abbrev pub first_needs : ℕ → List ℕ → Needs
first_needs limit preloads = record { places = record { limit = limit; places = level_0 preloads }; missing = None }

-- the first missing name after one more file is the one noted before, or else the first one that this
-- file needs
missing-more : (names : List (List ℕ)) (program : List ℕ) (files : List Library) (f : Library)
    → option_or (find (is_missing names) (flat_map needed_by (available program (map object_of files)))) (find (is_missing names) (needed_by (object_of f)))
    ≡ find (is_missing names) (flat_map needed_by (available program (map object_of (files ++ f ∷ []))))
missing-more names program files f =
    let before : List Named = available program (map object_of files) in
    sym (find-append (is_missing names) (flat_map needed_by before) (needed_by (object_of f)))
    ∙ ap (λ (l : List Need). find (is_missing names) (flat_map needed_by before ++ l)) (sym (append-nil (needed_by (object_of f))))
    ∙ ap (find (is_missing names)) (sym (flat_map-append needed_by before (object_of f ∷ [])))
    ∙ ap (λ (l : List Named). find (is_missing names) (flat_map needed_by (available program l))) (sym (map_push object_of files f))

-- if one more place of a queue is walked, the walked places are the earlier ones and that place
pub walked-more : (places more : List ℕ) (count : ℕ) → count + 1 < length places → walked (grown places more) (count + 1) ≡ walked places count ++ get_or places (count + 1) 0 ∷ []
walked-more places more count lt =
    ap (drop 1) (grown-take (count + 1 + 1) places more (omega (arith, lt)) ∙ take_more places (count + 1) 0 lt) ∙ by places (omega (arith, lt))
  where
    by : (ps : List ℕ) → 0 < length ps → drop 1 (take (count + 1) ps ++ get_or places (count + 1) 0 ∷ []) ≡ drop 1 (take (count + 1) ps) ++ get_or places (count + 1) 0 ∷ []
    by [] some = absurd (omega (arith, some))
    by (x ∷ xs) some =
        let e : count + 1 ≡ suc count = omega arith in
        subst (λ n. drop 1 (take n (x ∷ xs) ++ get_or places (count + 1) 0 ∷ []) ≡ drop 1 (take n (x ∷ xs)) ++ get_or places (count + 1) 0 ∷ []) (sym e) refl

-- a place of a queue after the first isn't the program's
pub place-above : (places : List ℕ) (i : ℕ) → get_or places 0 1 ≡ 0 → IsDistinct nat_eq places → i + 1 < length places → 0 < get_or places (i + 1) 0
place-above places i first distinct lt =
    let zeroth : get_or places 0 0 ≡ 0 = zero-of places first in
    let apart : nat_eq (get_or places 0 0) (get_or places (i + 1) 0) ≡ false = apart_from_distinct nat_eq places 0 (i + 1) 0 distinct (omega arith) lt in
    by (get_or places (i + 1) 0) (λ none. eqb-false (get_or places 0 0) (get_or places (i + 1) 0) apart (zeroth ∙ sym none))
  where
    zero-of : (ps : List ℕ) → get_or ps 0 1 ≡ 0 → get_or ps 0 0 ≡ 0
    zero-of [] e = refl
    zero-of (p ∷ ps) e = e

    by : (p : ℕ) → (p ≡ 0 → ⊥) → 0 < p
    by zero some = absurd (some refl)
    by (suc k) some = omega arith

-- the object that a walk has reached is the object at this place of the load order
pub order-at : (program : List ℕ) (libraries : List Named) (preloads places : List ℕ) (i : ℕ) → IsReached program libraries preloads places i
    → i < length places → length places ≤ length (available program libraries)
    → (more : List Named) × (load_order program libraries preloads ≡ map (object_at (available program libraries)) (take i places)
    ++ object_at (available program libraries) (get_or places i 0) ∷ more)
unfolding load_order load_places
order-at program libraries preloads places i reached lt few =
    let object = object_at (available program libraries) in
    let x : ℕ = get_or places i 0 in
    let begins = at-begins (needs_of program libraries) (length (available program libraries)) (level_0 preloads) places i x
    (reached-at (needs_of program libraries) (length (available program libraries)) (level_0 preloads) places i reached lt few) in
    (map object begins.more, ap (map object) begins.begins ∙ map-append object (take i places) (x ∷ begins.more))

-- a property of all items of a list holds for the item after `front`
one_behind : {X : Type 0} (P : X → Type 0) (front : List X) (x : X) (more : List X) → All P (front ++ x ∷ more) → P x
one_behind P [] x more all = All-head P x more all
one_behind P (y ∷ ys) x more all = one_behind P ys x more (All-tail P y (ys ++ x ∷ more) all)

one_of : {X : Type 0} (P : X → Type 0) (front : List X) (x : X) (more : List X) → 0 < length front → All P (drop 1 (front ++ x ∷ more)) → P x
one_of P [] x more some all = absurd (omega (arith, some))
one_of P (y ∷ ys) x more some all = one_behind P ys x more all

-- if a list begins with a nonempty `front`, dropping its first item drops the first item of `front`
behind_first : {X : Type 0} (front : List X) (x : X) (more : List X) → 0 < length front → drop 1 (front ++ x ∷ more) ≡ drop 1 front ++ x ∷ more
behind_first [] x more some = absurd (omega (arith, some))
behind_first (y ∷ ys) x more some = refl

map_behind : {X Y : Type 0} (f : X → Y) (xs : List X) → drop 1 (map f xs) ≡ map f (drop 1 xs)
map_behind f [] = refl
map_behind f (x ∷ xs) = refl

-- files have as many sectors as the objects made from them
sectors_of : (files : List Library) → sum_by (λ f. data_sectors f.bytes) files ≡ sum_by (λ o. data_sectors o.file) (map object_of files)
sectors_of [] = refl
sectors_of (f ∷ files) =
    sum_by-cons (λ (f : Library). data_sectors f.bytes) f files ∙ ap (λ n. data_sectors f.bytes + n) (sectors_of files)
    ∙ sym (sum_by-cons (λ (o : Named). data_sectors o.file) (object_of f) (map object_of files))

module _ (program : List ℕ) (s : State) where
  abbrev pub libraries : List Named
  libraries = objects s

  abbrev pub names : List (List ℕ)
  names = names_of (objects s)

  count : length libraries ≡ length s.libraries
  count = length-map s.libraries object_of

  limit_is : length (available program libraries) ≡ length s.libraries + 1
  limit_is = omega (arith, count)

  -- before the first file is read, the queue has level 0 and the files that the program needs
  pub none_read : (ks : List ℕ) → preload_numbers s ≡ ks → All (λ p. p < length s.libraries) ks → IsDistinct nat_eq ks
      → (needs : Needs) → needs ≡ more_needs names (first_needs (length s.libraries + 1) ks) program_name (needed program) → IsWalked program s needs []
  none_read ks numbers inside once needs is =
      let places : List ℕ = needs.places.places in
      let more : List ℕ = filter_map (place_of names) (needed program) in
      let grows : places ≡ grown (level_0 ks) more = ap (λ (n : Needs). n.places.places) is in
      let begins : take 1 places ≡ 0 ∷ [] = ap (take 1) grows ∙ grown-take 1 (level_0 ks) more (omega arith) in
      let low : All (λ p. p < length libraries) ks = subst (λ n. All (λ p. p < n) ks) (sym count) inside in
      let limit : ℕ = length (available program libraries) in
      let fits : length (level_0 ks) ≤ limit = few limit (level_0 ks) (record { below = low-level_0 program libraries ks low once; distinct = distinct-level_0 ks once }) in
      record {
        among = record {
          places = record { limit = ap (λ (n : Needs). n.places.limit) is; first = first-of places begins };
          within = omega (arith, grown-longer (level_0 ks) more, ap length grows);
        };
        missing = ap (λ (n : Needs). n.missing) is ∙ ap (find (is_missing names)) (sym (append-nil (needed_by (object_of_program program))));
        each = ap (map (object_at (available program libraries))) (sym (ap (drop 1) begins));
        reached = subst (λ ps. IsReached program libraries (preload_numbers s) ps 1) (sym grows)
            (subst (λ ps. IsReached program libraries ps (grown (level_0 ks) more) 1) (sym numbers)
            (reached-more program libraries ks (level_0 ks) 0
            (reached-start (needs_of program libraries) limit (level_0 ks) (omega arith)) (omega arith) fits));
      }
    where
      first-of : (ps : List ℕ) → take 1 ps ≡ 0 ∷ [] → get_or ps 0 1 ≡ 0
      first-of [] e = cc
      first-of (p ∷ ps) e = ap (λ l. get_or l 0 1) e

  -- the library at a place after the program is the object at that place
  pub library-at : (p : ℕ) (f : Library) → 0 < p → p < length s.libraries + 1
      → f ≡ get_or s.libraries (p - 1) no_library → object_of f ≡ object_at (available program libraries) p
  library-at zero f some lt is = absurd (omega (arith, some))
  library-at (suc k) f some lt is =
      let e : suc k - 1 ≡ k = omega arith in
      let within : k < length s.libraries = omega (arith, lt) in
      let library : Library = get_or s.libraries k no_library in
      let read : f ≡ library = is ∙ ap (λ i. get_or s.libraries i no_library) e in
      ap object_of read
      ∙ sym (get_or-map object_of s.libraries k no_library (object_of no_library) within)
      ∙ sym (object_later (record { name = program_name; file = program }) libraries k (object_of no_library) (omega (arith, within, count)))

  -- if one more file was read, its needs were added, and it was appended, the walk is still a walk of
  -- the program
  pub one_read : {needs : Needs} {files : List Library} → IsWalked program s needs files
      → AreApart (length s.libraries + 1) needs.places.places → length files + 1 < length needs.places.places
      → (f : Library) → f ≡ get_or s.libraries (next_place needs files - 1) no_library
      → (more : Needs) → more ≡ more_needs names needs f.name (needed f.bytes)
      → IsWalked program s more (files ++ f ∷ [])
  one_read {needs = needs} {files = files} so_far apart lt f is more after =
      let n : ℕ = length files in
      let places : List ℕ = needs.places.places in
      let p : ℕ = get_or places (n + 1) 0 in
      let found : List ℕ = filter_map (place_of names) (needed f.bytes) in
      let grows : more.places.places ≡ grown places found = ap (λ (q : Needs). q.places.places) after in
      let size : length (files ++ f ∷ []) ≡ n + 1 = length_push files f in
      let longer : length places ≤ length more.places.places = omega (arith, grown-longer places found, ap length grows) in
      let below : p < length s.libraries + 1 = All-get_or (λ q. q < length s.libraries + 1) places (n + 1) 0 lt apart.below in
      let above : 0 < p = place-above places n so_far.among.places.first apart.distinct lt in
      let behind : walked more.places.places (length (files ++ f ∷ [])) ≡ walked places n ++ p ∷ [] =
      ap (walked more.places.places) size ∙ ap (λ ps. walked ps (n + 1)) grows ∙ walked-more places found n lt in
      let object : object_of f ≡ object_at (available program libraries) p = library-at p f above below is in
      let fits : length places ≤ length (available program libraries) = omega (arith, few (length s.libraries + 1) places apart, limit_is) in
      let all : found ≡ needs_of program libraries p = ap (λ (o : Named). filter_map (place_of names) (needed o.file)) object in
      record {
        among = record {
          places = record {
            limit = ap (λ (q : Needs). q.places.limit) after ∙ so_far.among.places.limit;
            first = ap (λ ps. get_or ps 0 1) grows ∙ front places found so_far.among.places.first (omega (arith, lt));
          };
          within = omega (arith, lt, longer, size);
        };
        missing = ap (λ (q : Needs). q.missing) after
            ∙ ap (λ (o : Option Need). option_or o (find (is_missing names) (needed_by (object_of f)))) so_far.missing
            ∙ missing-more names program files f;
        each = map_push object_of files f
            ∙ ap (λ os. os ++ object_of f ∷ []) so_far.each
            ∙ ap (λ o. map (object_at (available program libraries)) (walked places n) ++ o ∷ []) object
            ∙ sym (map_push (object_at (available program libraries)) (walked places n) p)
            ∙ ap (map (object_at (available program libraries))) (sym behind);
        reached = subst (λ k. IsReached program libraries (preload_numbers s) more.places.places (k + 1)) (sym size)
            (subst (λ ps. IsReached program libraries (preload_numbers s) ps (n + 1 + 1)) (ap (grown places) (sym all) ∙ sym grows)
            (reached-more program libraries (preload_numbers s) places (n + 1) so_far.reached lt fits));
      }
    where
      front : (ps qs : List ℕ) → get_or ps 0 1 ≡ 0 → 0 < length ps → get_or (grown ps qs) 0 1 ≡ 0
      front [] qs first some = absurd (omega (arith, some))
      front (x ∷ ps) qs first some = ap (λ l. get_or l 0 1) (grown_is (x ∷ ps) qs) ∙ first

  -- if each file that the bind reads is a library, so is the next file
  pub next_is_library : {needs : Needs} {files : List Library} → IsWalked program s needs files
      → AreApart (length s.libraries + 1) needs.places.places → length files + 1 < length needs.places.places
      → ReadsLibraries s program → IsLibrary (get_or s.libraries (next_place needs files - 1) no_library)
  next_is_library {needs = needs} {files = files} so_far apart lt all =
      let n : ℕ = length files in
      let places : List ℕ = needs.places.places in
      let p : ℕ = get_or places (n + 1) 0 in
      let l : Library = get_or s.libraries (p - 1) no_library in
      let object = object_at (available program libraries) in
      let below : p < length s.libraries + 1 = All-get_or (λ q. q < length s.libraries + 1) places (n + 1) 0 lt apart.below in
      let above : 0 < p = place-above places n so_far.among.places.first apart.distinct lt in
      let fits : length places ≤ length (available program libraries) = omega (arith, few (length s.libraries + 1) places apart, limit_is) in
      let ordered = order-at program libraries (preload_numbers s) places (n + 1) so_far.reached lt fits in
      let front : List Named = map object (take (n + 1) places) in
      let some : 0 < length front = omega (arith, length-map (take (n + 1) places) object, length-take (n + 1) places, lt) in
      let its : IsLibrary (record { name = (object p).name; bytes = (object p).file }) =
      one_of (λ o. IsLibrary (record { name = o.name; bytes = o.file })) front (object p) ordered.0 some
      (subst (λ os. All (λ o. IsLibrary (record { name = o.name; bytes = o.file })) (drop 1 os)) ordered.1 all) in
      subst (λ (o : Named). IsLibrary (record { name = o.name; bytes = o.file })) (sym (library-at p l above below refl)) its

  -- the files that were read and the next one together have at most as many sectors as the bind reads
  pub next_fits : {needs : Needs} {files : List Library} → IsWalked program s needs files
      → AreApart (length s.libraries + 1) needs.places.places → length files + 1 < length needs.places.places
      → sum_by (λ (f : Library). data_sectors f.bytes) files + data_sectors (get_or s.libraries (next_place needs files - 1) no_library).bytes ≤ bind_sectors s program
  next_fits {needs = needs} {files = files} so_far apart lt =
      let n : ℕ = length files in
      let places : List ℕ = needs.places.places in
      let p : ℕ = get_or places (n + 1) 0 in
      let l : Library = get_or s.libraries (p - 1) no_library in
      let object = object_at (available program libraries) in
      let below : p < length s.libraries + 1 = All-get_or (λ q. q < length s.libraries + 1) places (n + 1) 0 lt apart.below in
      let above : 0 < p = place-above places n so_far.among.places.first apart.distinct lt in
      let fits : length places ≤ length (available program libraries) = omega (arith, few (length s.libraries + 1) places apart, limit_is) in
      let ordered = order-at program libraries (preload_numbers s) places (n + 1) so_far.reached lt fits in
      let front : List Named = map object (take (n + 1) places) in
      let some : 0 < length front = omega (arith, length-map (take (n + 1) places) object, length-take (n + 1) places, lt) in
      let whole : drop 1 (load_order program libraries (preload_numbers s)) ≡ map object_of files ++ object p ∷ ordered.0 =
      ap (drop 1) ordered.1 ∙ behind_first front (object p) ordered.0 some
      ∙ ap (λ (os : List Named). os ++ object p ∷ ordered.0) (map_behind object (take (n + 1) places) ∙ sym so_far.each) in
      omega (
        arith,
        sectors_of files,
        ap (sum_by (λ (o : Named). data_sectors o.file)) whole,
        sum_by-append (λ (o : Named). data_sectors o.file) (map object_of files) (object p ∷ ordered.0),
        sum_by-cons (λ (o : Named). data_sectors o.file) (object p) ordered.0,
        ap (λ (o : Named). data_sectors o.file) (library-at p l above below refl),
      )

  -- if the program and the files are the load order, the files have as many sectors as the bind reads
  pub all_fit : (files : List Library) → load_order program libraries (preload_numbers s) ≡ available program (map object_of files)
      → sum_by (λ f. data_sectors f.bytes) files ≡ bind_sectors s program
  all_fit files is = sectors_of files ∙ ap (λ (os : List Named). sum_by (λ (o : Named). data_sectors o.file) (drop 1 os)) (sym is)

  whole-walked : (places : List ℕ) (n : ℕ) → n < length places → length places ≤ n + 1 → walked places n ≡ drop 1 places
  whole-walked places n inside outside =
      let e : n + 1 ≡ length places = omega (arith, inside, outside) in
      ap (λ k. drop 1 (take k places)) e ∙ ap (drop 1) (take-length places)

  -- if the whole queue was walked, the program and the files are the load order
  pub all_read : {needs : Needs} {files : List Library} → IsWalked program s needs files → length needs.places.places ≤ length files + 1
      → load_order program libraries (preload_numbers s) ≡ available program (map object_of files)
  all_read {needs = needs} {files = files} so_far outside =
      let ks : List ℕ = preload_numbers s in
      order-whole program libraries ks
      ∙ ap (available program)
      (order-behind program libraries ks
      ∙ ap (map (object_at (available program libraries)))
      (sym (whole-walked needs.places.places (length files) so_far.among.within outside
      ∙ ap (drop 1) (sym (places-end program libraries ks needs.places.places (length files + 1) so_far.reached outside))))
      ∙ sym so_far.each)

  -- if the whole queue was walked and the files are libraries, each file that the bind reads is a
  -- library
  pub libraries_read : {needs : Needs} {files : List Library} → IsWalked program s needs files → length needs.places.places ≤ length files + 1 → All IsLibrary files
      → ReadsLibraries s program
  libraries_read {needs = needs} {files = files} so_far outside each =
      subst (λ os. All (λ o. IsLibrary (record { name = o.name; bytes = o.file })) (drop 1 os)) (sym (all_read so_far outside)) (by files each)
    where
      by : (fs : List Library) → All IsLibrary fs → All (λ o. IsLibrary (record { name = o.name; bytes = o.file })) (map object_of fs)
      by [] all = All-nil (λ (o : Named). IsLibrary (record { name = o.name; bytes = o.file }))
      by (f ∷ fs) all = All-cons (λ (o : Named). IsLibrary (record { name = o.name; bytes = o.file })) (object_of f) (map object_of fs)
          (All-head IsLibrary f fs all) (by fs (All-tail IsLibrary f fs all))

  -- if the whole queue was walked, the first missing name is the noted one
  pub missing_read : {needs : Needs} {files : List Library} → IsWalked program s needs files → length needs.places.places ≤ length files + 1
      → missing program libraries (preload_numbers s) ≡ needs.missing
  unfolding missing
  missing_read {needs = needs} {files = files} so_far outside =
      ap (λ (os : List Named). find (is_missing names) (flat_map needed_by os)) (all_read so_far outside) ∙ sym so_far.missing
