-- The maximum number of steps of a binder, and of sectors that one step reads.
use Rattle.std.proofs.Common.{◌≡◌, ℕ, zero, suc, ◌+◌, ◌-◌, ◌<◌, ◌≤◌, List, [], ◌∷◌, length, map, take, drop, get_or, sum_by, nat_eq, Option, Some}
use Rattle.std.proofs.Common.{None, IsTrue, refl, sym, ap, subst, ◌∙◌, ⊎_elim, arith}
use Rattle.std.specs.Prelude.{All}
use Rattle.std.specs.List.{IsDistinct}
use Rattle.std.proofs.lemmas.Bool.{cases_lt}
use Rattle.std.proofs.lemmas.List.{drop_all, drop_more, get_or_default, length-map, get_or-map}
use Rattle.std.proofs.lemmas.List.Elements.{All-get_or, All-nil}
use Rattle.std.proofs.lemmas.List.Sums.{sum_by-cons}
use Rattle.sector_disk.specs.Disk.{DiskFacts, HoldsNow}
use Rattle.roots.specs.Root.{listed_preloads}
use Rattle.scope.specs.LoadOrder.{available, level_0, load_order, load_places, object_at}
use Rattle.scope.specs.Objects.{Named}
use Rattle.scope.specs.Queue.{AreApart}
use Rattle.scope.proofs.Apart.{few}
use Rattle.scope.proofs.LoadOrderLemmas.{load_order-below, load_order-distinct, load_order-first}
use Rattle.image.specs.Refusal.{program_refusal}
use Rattle.image.specs.declared.refusal.BindRefusal.{BindRefusal}
use Rattle.requests.specs.Binding.{object_of, objects, preload_numbers}
use Rattle.states.specs.State.{Library, State}
use Rattle.store.specs.Opened.{Opened, IsAt}
use Rattle.store.specs.Stands.{HaveOwnNames, no_library}
use Rattle.registry.specs.Binding.{data_sectors}
use Rattle.registry.specs.Flight.{Flight, IsBounded, goings_by, sectors_at}
use Rattle.registry.specs.Flying.{Flies}
use Rattle.registry.specs.inside.Binding.{Binding}
use Rattle.registry.proofs.FilesRead.{library-at, place-above}
use Rattle.registry.proofs.StateNames.{numbers_are, object_count}

-- the number of sectors that hold an object's file
abbrev of_object : Named → ℕ
of_object o = data_sectors o.file

-- if the object at place k, if there is one, has at most n sectors, so does the list of this object
sectors_one : (order : List Named) (k : ℕ) (d : Named) (n : ℕ) → (k < length order → of_object (get_or order k d) ≤ n) → sum_by of_object (take 1 (drop k order)) ≤ n
sectors_one order k d n each = ⊎_elim
    (λ lt.
    let one : take 1 (drop k order) ≡ get_or order k d ∷ [] = ap (take 1) (drop_more order k d lt) in
    omega (arith, ap (sum_by of_object) one, sum_by-cons of_object (get_or order k d) [], each lt))
    (λ le.
    let none : drop k order ≡ [] = drop_all k order le in
    omega (arith, ap (λ (l : List Named). sum_by of_object (take 1 l)) none))
    (cases_lt k (length order))

-- if the places begin with 0, the first place is 0
first_place : (places more : List ℕ) (k : ℕ) → take (suc k) places ≡ 0 ∷ more → get_or places 0 1 ≡ 0
first_place [] more k e = cc
first_place (p ∷ places) more k e = ap (λ l. get_or l 0 1) e

module _ {D : Type 0} (facts : D → DiskFacts) (taken : Opened D) (holds : IsTrue (facts taken.disk).honest → HoldsNow (facts taken.disk)) (s : State)
    (at : IsAt facts taken s) (own : HaveOwnNames taken.entries)
    (inside : All (λ p. p < length taken.entries) (listed_preloads taken.root)) (once : IsDistinct nat_eq (listed_preloads taken.root)) (program : List ℕ) where
  abbrev libraries : List Named
  libraries = objects s

  abbrev numbers : List ℕ
  numbers = preload_numbers s

  abbrev places : List ℕ
  places = load_places program libraries numbers

  count : length libraries ≡ length taken.entries
  count = object_count facts taken s holds at

  listed : numbers ≡ listed_preloads taken.root
  listed = numbers_are facts taken s holds at own inside

  low : All (λ p. p < length libraries) numbers
  low = subst (All (λ p. p < length libraries)) (sym listed) (subst (λ n. All (λ p. p < n) (listed_preloads taken.root)) (sym count) inside)

  distinct : IsDistinct nat_eq numbers
  distinct = subst (IsDistinct nat_eq) (sym listed) once

  apart : AreApart (length (available program libraries)) places
  apart = record { below = load_order-below program libraries numbers low distinct; distinct = load_order-distinct program libraries numbers low distinct }

  order_is : load_order program libraries numbers ≡ map (object_at (available program libraries)) places
  unfolding load_order
  order_is = refl

  long : length (load_order program libraries numbers) ≡ length places
  long = ap length order_is ∙ length-map places (object_at (available program libraries))

  -- a load order has the program, and each library at most once
  most_steps : length (load_order program libraries numbers) ≤ length s.libraries + 1
  most_steps = omega (arith, long, few (length (available program libraries)) places apart, length-map s.libraries object_of)

  -- A property that each library of the state has is a property of each object after the program in the
  -- load order.
  module _ (P : Library → Type 0) (each : All P s.libraries) where
    abbrev Of : Named → Type 0
    Of o = P (record { name = o.name; bytes = o.file })

    at_place : (k : ℕ) → suc k < length (load_order program libraries numbers) → Of (get_or (load_order program libraries numbers) (suc k) (object_at (available program libraries) 0))
    at_place k lt =
        let object = object_at (available program libraries) in
        let next : k + 1 ≡ suc k = omega arith in
        let inner : k + 1 < length places = omega (arith, lt, long) in
        let p : ℕ = get_or places (k + 1) 0 in
        let above : 0 < p = place-above places k (first_place places (map (λ q. q + 1) numbers) (length numbers) begins) apart.distinct inner in
        let below : p < length s.libraries + 1 = omega (arith, All-get_or (λ q. q < length (available program libraries)) places (k + 1) 0 inner apart.below, length-map s.libraries object_of) in
        let file : Library = get_or s.libraries (p - 1) no_library in
        let is : object_of file ≡ object p = library-at program s p file above below refl in
        let there : get_or (load_order program libraries numbers) (suc k) (object 0) ≡ object p =
        ap (λ (i : ℕ). get_or (load_order program libraries numbers) i (object 0)) (sym next)
        ∙ ap (λ (l : List Named). get_or l (k + 1) (object 0)) order_is ∙ get_or-map object places (k + 1) 0 (object 0) inner in
        let its : P file = All-get_or P s.libraries (p - 1) no_library (omega (arith, above, below)) each in
        subst Of (is ∙ sym there) its
      where
        begins : take (suc (length numbers)) places ≡ 0 ∷ map (λ q. q + 1) numbers
        begins =
            let size : length (level_0 numbers) ≡ suc (length numbers) = omega (arith, length-map numbers (λ q. q + 1)) in
            subst (λ (i : ℕ). take i places ≡ level_0 numbers) size (load_order-first program libraries numbers)

    pub all_behind : All Of (drop 1 (load_order program libraries numbers))
    all_behind = by (load_order program libraries numbers) at_place
      where
        by : (os : List Named) → ((k : ℕ) → suc k < length os → Of (get_or os (suc k) (object_at (available program libraries) 0))) → All Of (drop 1 os)
        by [] at_each = All-nil Of
        by (o ∷ os) at_each = λ k d lt. subst Of (get_or_default os k (object_at (available program libraries) 0) d lt) (at_each k (omega (arith, lt)))

  -- if no library of the state has more than n sectors, no library of the load order has more
  most_sectors : (n : ℕ) → All (λ library. data_sectors library.bytes ≤ n) s.libraries → (going : ℕ) → sectors_at going (load_order program libraries numbers) ≤ n
  most_sectors n each zero = omega arith
  most_sectors n each (suc k) = sectors_one (load_order program libraries numbers) (suc k) (object_at (available program libraries) 0) n (at_place (λ library. data_sectors library.bytes ≤ n) each k)

  -- no flight has more Going steps than libraries, plus one
  steps_by : (o : Option BindRefusal) → goings_by o (load_order program libraries numbers) ≤ length s.libraries + 1
  steps_by None = most_steps
  steps_by (Some refusal) = omega arith

-- If a binder is on a flight, the flight is bounded, because the binder's snapshot shows that no preload
-- occurs twice.
pub bounded : {D : Type 0} (facts : D → DiskFacts) (now : Opened D) (binder : Binding) (flight : Flight) (flies : Flies facts now binder flight)
    → (IsTrue (facts flies.taken.disk).honest → HoldsNow (facts flies.taken.disk))
    → All (λ p. p < length binder.snapshot.handles) binder.snapshot.preloads → IsDistinct nat_eq binder.snapshot.preloads → IsBounded flight
bounded facts now binder flight flies holds inside once =
    let listed = flies.snapshot.preloads in
    let within = subst (λ n. All (λ p. p < n) binder.snapshot.preloads) flies.snapshot.entries.held.count inside in
    let low : All (λ p. p < length flies.taken.entries) (listed_preloads flies.taken.root) = subst (All (λ p. p < length flies.taken.entries)) listed within in
    let distinct : IsDistinct nat_eq (listed_preloads flies.taken.root) = subst (IsDistinct nat_eq) listed once in
    record {
      steps = steps_by facts flies.taken holds flight.state flies.at.stored flies.own low distinct flight.program (program_refusal flight.program flight.base);
      sectors = λ n each. most_sectors facts flies.taken holds flight.state flies.at.stored flies.own low distinct flight.program n each flight.going;
    }
