-- The queue finds the joined levels, and the first name that isn't installed.
use Rattle.std.proofs.Common.{◌≡◌, ℕ, ◌+◌, ◌<◌, ◌≤◌, List, [], ◌∷◌, ◌++◌, length, map, take, drop, get_or, Option, Some, None, refl, sym, ap, ◌∙◌, arith, append-nil}
use Rattle.std.specs.Prelude.{slice_get}
use Rattle.std.specs.Option.{option_map, option_or}
use Rattle.std.specs.List.{find, flat_map}
use Rattle.std.proofs.Math.Seq.{take-length}
use Rattle.std.proofs.lemmas.Grind.{flat_map-append}
use Rattle.std.proofs.lemmas.List.{take_more, map-append}
use Rattle.std.proofs.lemmas.List.Folds.{find-append}
use Rattle.scope.specs.Objects.{Named, program_name}
use Rattle.scope.specs.Levels.{levels, joined_levels}
use Rattle.scope.specs.LoadOrder.{Need, available, names_of, needs_of, level_0, object_at, needed_by, is_missing, load_places, load_order, missing}
use Rattle.scope.specs.Refusal.{IsRefusal}
use Rattle.scope.specs.declared.refusal.OrderRefusal.{OrderRefusal}
use Rattle.scope.specs.declared.refusal.OrderRefusal.TheVariants.{Missing, OutOfMemory}
use Rattle.scope.specs.inside.Growing.{grown}
use Rattle.scope.specs.inside.Reached.{Reached}
use Rattle.scope.proofs.Growing.{grown-take}
use Rattle.scope.proofs.Reaching.{reached-at, reached-next, reached-end, at-begins}

module _ (program : List ℕ) (libraries : List Named) (preloads : List ℕ) where
  -- the needs of the objects at these places
  abbrev pub listed : List ℕ → List Need
  listed places = flat_map needed_by (map (object_at (available program libraries)) places)

  -- the first of these needs that isn't installed
  abbrev pub first_missing : List Need → Option Need
  first_missing needs = find (is_missing (names_of libraries)) needs

  abbrev pub IsReached : List ℕ → ℕ → Type 0
  IsReached places i = Reached (needs_of program libraries) (length (available program libraries)) (level_0 preloads) places i

  listed-append : (xs ys : List ℕ) → listed (xs ++ ys) ≡ listed xs ++ listed ys
  listed-append xs ys =
      ap (flat_map needed_by) (map-append (object_at (available program libraries)) xs ys)
      ∙ flat_map-append needed_by (map (object_at (available program libraries)) xs) (map (object_at (available program libraries)) ys)

  listed-one : (x : ℕ) → listed (x ∷ []) ≡ needed_by (object_at (available program libraries) x)
  listed-one x = append-nil (needed_by (object_at (available program libraries) x))

  -- after the needs of object number i were added, the first i + 1 objects of the queue have been
  -- processed
  pub reached-more : (places : List ℕ) (i : ℕ) → IsReached places i → i < length places → length places ≤ length (available program libraries)
      → IsReached (grown places (needs_of program libraries (get_or places i 0))) (i + 1)
  reached-more places i r lt few = reached-next _ _ _ (reached-at _ _ _ places i r lt few)

  pub clear-more : (places qs : List ℕ) (i : ℕ) → i < length places → first_missing (listed (take i places)) ≡ None
      → first_missing (needed_by (object_at (available program libraries) (get_or places i 0))) ≡ None
      → first_missing (listed (take (i + 1) (grown places qs))) ≡ None
  clear-more places qs i lt clear found =
      ap (λ l. first_missing (listed l)) (grown-take (i + 1) places qs (omega (arith, lt)) ∙ take_more places i 0 lt)
      ∙ ap first_missing (listed-append (take i places) (get_or places i 0 ∷ []))
      ∙ find-append (is_missing (names_of libraries)) (listed (take i places)) (listed (get_or places i 0 ∷ []))
      ∙ ap (λ o. option_or o (first_missing (listed (get_or places i 0 ∷ [])))) clear
      ∙ ap first_missing (listed-one (get_or places i 0))
      ∙ found

  -- if the first missing need is found at object number i of the queue, it is the first missing one of
  -- the load order
  missing-at : (places : List ℕ) (i : ℕ) (need : Need) → IsReached places i → i < length places → length places ≤ length (available program libraries)
      → first_missing (listed (take i places)) ≡ None
      → first_missing (needed_by (object_at (available program libraries) (get_or places i 0))) ≡ Some need
      → missing program libraries preloads ≡ Some need
  unfolding missing load_order load_places
  missing-at places i need r lt few clear found =
      let x : ℕ = get_or places i 0 in
      let b = at-begins _ _ _ places i x (reached-at _ _ _ places i r lt few) in
      ap (λ l. first_missing (listed l)) b.begins
      ∙ ap first_missing (listed-append (take i places) (x ∷ b.more))
      ∙ find-append (is_missing (names_of libraries)) (listed (take i places)) (listed (x ∷ b.more))
      ∙ ap (λ o. option_or o (first_missing (listed (x ∷ b.more)))) clear
      ∙ ap first_missing (listed-append (x ∷ []) b.more ∙ ap (λ l. l ++ listed b.more) (listed-one x))
      ∙ find-append (is_missing (names_of libraries)) (needed_by (object_at (available program libraries) x)) (listed b.more)
      ∙ ap (λ o. option_or o (first_missing (listed b.more))) found

  pub refused-at : (places : List ℕ) (i : ℕ) (refusal : OrderRefusal) → IsReached places i → i < length places → length places ≤ length (available program libraries)
      → first_missing (listed (take i places)) ≡ None
      → IsRefusal (first_missing (needed_by (object_at (available program libraries) (get_or places i 0)))) refusal
      → IsRefusal (missing program libraries preloads) refusal
  refused-at places i (Missing needer name) r lt few clear h = missing-at places i (record { needer = needer; name = name }) r lt few clear h
  refused-at places i OutOfMemory r lt few clear h = tt

  -- if all objects of the queue have been processed, its places are those of the load order
  pub places-end : (places : List ℕ) (i : ℕ) → IsReached places i → length places ≤ i → load_places program libraries preloads ≡ places
  unfolding load_places
  places-end places i r outside = reached-end _ _ _ places i r outside

  pub missing-end : (places : List ℕ) (i : ℕ) → IsReached places i → i ≤ length places → length places ≤ i
      → first_missing (listed (take i places)) ≡ None → missing program libraries preloads ≡ None
  unfolding missing load_order
  missing-end places i r inside outside clear =
      let e : length places ≡ i = omega (arith, inside, outside) in
      ap (λ l. first_missing (listed l)) (places-end places i r outside ∙ sym (take-length places) ∙ ap (λ k. take k places) e) ∙ clear

  -- the load order without the program is the objects at its places, without the first place
  pub order-behind : drop 1 (load_order program libraries preloads) ≡ map (object_at (available program libraries)) (drop 1 (load_places program libraries preloads))
  unfolding load_order load_places joined_levels levels
  order-behind = refl

  -- the load order is the program, followed by the rest of the load order
  pub order-whole : load_order program libraries preloads ≡ available program (drop 1 (load_order program libraries preloads))
  unfolding load_order load_places joined_levels levels
  order-whole = refl

  -- the program is the first object of the load order
  pub program-first : option_map (λ (o : Named). o.name) (slice_get (load_order program libraries preloads) 0) ≡ Some program_name
  unfolding load_order load_places joined_levels levels
  program-first = refl

  pub order-is : (places : List ℕ) → places ≡ load_places program libraries preloads
      → map (object_at (available program libraries)) places ≡ load_order program libraries preloads
  unfolding load_order
  order-is places e = ap (map (object_at (available program libraries))) e
