-- Objects at bases, and the bases that a placement chooses.
use Rattle.std.proofs.Common.{◌≡◌, ℕ, ◌+◌, ◌<◌, ◌≤◌, Bool, true, false, List, [], ◌∷◌, length, map, drop, get_or, refl, sym, ap, ◌∙◌, subst, arith, suc, zero, nat_lt}
use Rattle.std.specs.Prelude.{◌||◌}
use Rattle.std.specs.Int.{next_multiple_of}
use Rattle.std.specs.List.{All}
use Rattle.std.proofs.lemmas.Bool.Decides.{nat_tests}
use Rattle.std.proofs.lemmas.List.{drop_more, drop_all, get_or-map, length-map}
use Rattle.scope.specs.Objects.{Named, IsTaken, IsOrder}
use Rattle.scope.specs.Objects as order
use Rattle.image.specs.Bound.{AllAccepted}
use Rattle.image.specs.Constant.{MEMORY_LIMIT}
use Rattle.image.specs.Placement.{Placed, Stacked, placed_at, place, place_after, named, unit, reach, ends_too_high, lacks_room}
use Rattle.image.specs.Refusal.{PlacesWantMemory}
use Rattle.image.specs.Relocating.{base_at, file_at, name_at}
use Rattle.image.specs.inside.Segments.{IsPlaced, with_bases}
use Rattle.image.proofs.Placing.{ends-low}

-- the bases of objects
abbrev pub bases_of : List Placed → List ℕ
bases_of objects = map (λ p. p.base) objects

pub length-with : (os : List Named) (bs : List ℕ) → length bs ≡ length os → length (with_bases os bs) ≡ length bs
length-with [] [] h = refl
length-with [] (b ∷ bs) h = absurd (omega (arith, h))
length-with (o ∷ os) [] h = refl
length-with (o ∷ os) (b ∷ bs) h = ap suc (length-with os bs (omega (arith, h)))

pub bases-with : (os : List Named) (bs : List ℕ) → length bs ≡ length os → bases_of (with_bases os bs) ≡ bs
bases-with [] [] h = refl
bases-with [] (b ∷ bs) h = absurd (omega (arith, h))
bases-with (o ∷ os) [] h = refl
bases-with (o ∷ os) (b ∷ bs) h = ap (λ l. b ∷ l) (bases-with os bs (omega (arith, h)))

pub named-with : (os : List Named) (bs : List ℕ) → length bs ≡ length os → map named (with_bases os bs) ≡ os
named-with [] bs h = refl
named-with (o ∷ os) [] h = absurd (omega (arith, h))
named-with (o ∷ os) (b ∷ bs) h = ap (λ l. o ∷ l) (named-with os bs (omega (arith, h)))

pub files-with : (os : List Named) (bs : List ℕ) → length bs ≡ length os → map (λ (p : Placed). p.file) (with_bases os bs) ≡ map (λ (o : Named). o.file) os
files-with [] bs h = refl
files-with (o ∷ os) [] h = absurd (omega (arith, h))
files-with (o ∷ os) (b ∷ bs) h = ap (λ l. o.file ∷ l) (files-with os bs (omega (arith, h)))

pub names-with : (os : List Named) (bs : List ℕ) → length bs ≡ length os → map (λ (p : Placed). p.name) (with_bases os bs) ≡ map (λ (o : Named). o.name) os
names-with [] bs h = refl
names-with (o ∷ os) [] h = absurd (omega (arith, h))
names-with (o ∷ os) (b ∷ bs) h = ap (λ l. o.name ∷ l) (names-with os bs (omega (arith, h)))

-- object number i at its base has the base of the list, and its file and its name are unchanged
pub base-kept : (os : List Named) (bs : List ℕ) (i : ℕ) → length bs ≡ length os → base_at (with_bases os bs) i ≡ get_or bs i 0
base-kept os bs i h = ap (λ l. get_or l i 0) (bases-with os bs h)

pub file-kept : (os : List Named) (bs : List ℕ) (i : ℕ) → length bs ≡ length os → file_at (with_bases os bs) i ≡ order.file_at os i
file-kept os bs i h = ap (λ (l : List (List ℕ)). get_or l i []) (files-with os bs h)

pub name-kept : (os : List Named) (bs : List ℕ) (i : ℕ) → length bs ≡ length os → name_at (with_bases os bs) i ≡ order.name_at os i
name-kept os bs i h = ap (λ (l : List (List ℕ)). get_or l i []) (names-with os bs h)

with-after : (end : ℕ) (os : List Named) → with_bases os (bases_of (place_after end os)) ≡ place_after end os
with-after end [] = refl
with-after end (o ∷ os) =
    let b = next_multiple_of end (unit o.file) in
    ap (λ l. placed_at b o ∷ l) (with-after (b + reach o.file) os)

-- the objects of an order, at the bases that `place` returns, are the objects that `place` returns
pub with-place : (base : ℕ) (os : List Named) → with_bases os (bases_of (place base os)) ≡ place base os
with-place base [] = refl
with-place base (o ∷ os) = ap (λ l. placed_at base o ∷ l) (with-after (base + reach o.file) os)

length-after : (end : ℕ) (os : List Named) → length (bases_of (place_after end os)) ≡ length os
length-after end [] = refl
length-after end (o ∷ os) = ap suc (length-after (next_multiple_of end (unit o.file) + reach o.file) os)

length-place : (base : ℕ) (os : List Named) → length (bases_of (place base os)) ≡ length os
length-place base [] = refl
length-place base (o ∷ os) = ap suc (length-after (base + reach o.file) os)

-- a placement keeps the number of objects and the file of each
pub length-placed : (base : ℕ) (os : List Named) → length (place base os) ≡ length os
length-placed base os = sym (length-map (place base os) (λ (p : Placed). p.base)) ∙ length-place base os

pub file-placed : (base : ℕ) (os : List Named) (i : ℕ) → file_at (place base os) i ≡ order.file_at os i
file-placed base os i = ap (λ (ps : List Placed). file_at ps i) (sym (with-place base os)) ∙ file-kept os (bases_of (place base os)) i (length-place base os)

left : (a b : Bool) → (a || b) ≡ false → a ≡ false
left true b h = cc
left false b h = refl

right : (a b : Bool) → (a || b) ≡ false → b ≡ false
right true b h = cc
right false b h = h

stacked-after : (end : ℕ) (os : List Named) → lacks_room (place_after end os) ≡ false → Stacked end (place_after end os)
stacked-after end [] h = tt
stacked-after end (o ∷ os) h =
    let b = next_multiple_of end (unit o.file) in
    let p = placed_at b o in
    let rest = place_after (b + reach o.file) os in
    (omega arith, ends-low p (left (ends_too_high p) (lacks_room rest) h), stacked-after (b + reach o.file) os (right (ends_too_high p) (lacks_room rest) h))

stacked-place : (base : ℕ) (os : List Named) → lacks_room (place base os) ≡ false → Stacked 0 (place base os)
stacked-place base [] h = tt
stacked-place base (o ∷ os) h =
    let p = placed_at base o in
    let rest = place_after (base + reach o.file) os in
    (omega arith, ends-low p (left (ends_too_high p) (lacks_room rest) h), stacked-after (base + reach o.file) os (right (ends_too_high p) (lacks_room rest) h))

accepted-with : (os : List Named) (bs : List ℕ) → All (λ o. IsTaken o.file) os → AllAccepted (with_bases os bs)
accepted-with [] bs taken k d lt = absurd (omega (arith, lt))
accepted-with (o ∷ os) [] taken k d lt = absurd (omega (arith, lt))
accepted-with (o ∷ os) (b ∷ bs) taken zero d lt = (taken 0 o (omega arith)).accepted
accepted-with (o ∷ os) (b ∷ bs) taken (suc k) d lt =
    accepted-with os bs (λ j e l. taken (suc j) e (omega (arith, l))) k d (omega (arith, lt))

-- if there is room, the bases that `place` returns make `IsPlaced` true
pub is-placed : (base : ℕ) (os : List Named) (bs : List ℕ) → IsOrder os → bs ≡ bases_of (place base os) → lacks_room (place base os) ≡ false → IsPlaced os bs
is-placed base os bs taken is room =
    let same : with_bases os bs ≡ place base os = ap (with_bases os) is ∙ with-place base os in
    record {
      counted = ap length is ∙ length-place base os;
      stacked = subst (Stacked 0) (sym same) (stacked-place base os room);
      accepted = accepted-with os bs taken.taken;
    }

-- an order has at least one object, the program
pub order-some : (os : List Named) → IsOrder os → 0 < length os
order-some [] h = let p = h.program in cc
order-some (o ∷ os) h = omega arith

-- the first base of a placement is the given one; the other bases and their room are those of the
-- placement after the program
pub first-base : (base : ℕ) (os : List Named) → 0 < length os
    → bases_of (place base os) ≡ base ∷ bases_of (place_after (base + reach (order.file_at os 0)) (drop 1 os))
first-base base [] h = absurd (omega (arith, h))
first-base base (o ∷ os) h = refl

pub first-room : (base : ℕ) (os : List Named) → 0 < length os
    → lacks_room (place base os) ≡ (nat_lt MEMORY_LIMIT (base + reach (order.file_at os 0)) || lacks_room (place_after (base + reach (order.file_at os 0)) (drop 1 os)))
first-room base [] h = absurd (omega (arith, h))
first-room base (o ∷ os) h = refl

abbrev nobody : Named
nobody = record { name = []; file = [] }

next-after : (end i : ℕ) (os : List Named) → i < length os
    → place_after end (drop i os) ≡ place_after end (get_or os i nobody ∷ drop (i + 1) os)
next-after end i os h = ap (place_after end) (drop_more os i nobody h)

file-of : (i : ℕ) (os : List Named) → i < length os → (get_or os i nobody).file ≡ order.file_at os i
file-of i os h = sym (get_or-map (λ (o : Named). o.file) os i nobody [] h)

-- the base of object number i is the next multiple of its unit; the other bases and their room are those
-- of the placement after this object
pub next-base : (end i : ℕ) (os : List Named) → i < length os
    → bases_of (place_after end (drop i os))
    ≡ next_multiple_of end (unit (order.file_at os i))
    ∷ bases_of (place_after (next_multiple_of end (unit (order.file_at os i)) + reach (order.file_at os i)) (drop (i + 1) os))
next-base end i os h =
    ap bases_of (next-after end i os h)
    ∙ ap (λ f. next_multiple_of end (unit f) ∷ bases_of (place_after (next_multiple_of end (unit f) + reach f) (drop (i + 1) os))) (file-of i os h)

pub next-room : (end i : ℕ) (os : List Named) → i < length os
    → lacks_room (place_after end (drop i os))
    ≡ (nat_lt MEMORY_LIMIT (next_multiple_of end (unit (order.file_at os i)) + reach (order.file_at os i))
    || lacks_room (place_after (next_multiple_of end (unit (order.file_at os i)) + reach (order.file_at os i)) (drop (i + 1) os)))
next-room end i os h =
    ap lacks_room (next-after end i os h)
    ∙ ap (λ f. nat_lt MEMORY_LIMIT (next_multiple_of end (unit f) + reach f) || lacks_room (place_after (next_multiple_of end (unit f) + reach f) (drop (i + 1) os))) (file-of i os h)

-- after the last object, nothing is left to place
pub none-behind : (end i : ℕ) (os : List Named) → length os ≤ i → place_after end (drop i os) ≡ []
none-behind end i os h = ap (place_after end) (drop_all i os h)

-- if placed objects are the objects of an order at the bases of a list, they have the order's files and
-- names and the list's bases, number by number
pub count-kept : (os : List Named) (bs : List ℕ) (objects : List Placed) → length bs ≡ length os → with_bases os bs ≡ objects → length objects ≡ length bs
count-kept os bs objects h is = ap length (sym is) ∙ length-with os bs h

pub base-is : (os : List Named) (bs : List ℕ) (objects : List Placed) (i : ℕ) → length bs ≡ length os → with_bases os bs ≡ objects → get_or bs i 0 ≡ base_at objects i
base-is os bs objects i h is = sym (base-kept os bs i h) ∙ ap (λ l. base_at l i) is

pub file-is : (os : List Named) (bs : List ℕ) (objects : List Placed) (i : ℕ) → length bs ≡ length os → with_bases os bs ≡ objects → order.file_at os i ≡ file_at objects i
file-is os bs objects i h is = sym (file-kept os bs i h) ∙ ap (λ l. file_at l i) is

pub name-is : (os : List Named) (bs : List ℕ) (objects : List Placed) (i : ℕ) → length bs ≡ length os → with_bases os bs ≡ objects → order.name_at os i ≡ name_at objects i
name-is os bs objects i h is = sym (name-kept os bs i h) ∙ ap (λ l. name_at l i) is

pub named-is : (os : List Named) (bs : List ℕ) (objects : List Placed) → length bs ≡ length os → with_bases os bs ≡ objects → os ≡ map named objects
named-is os bs objects h is = sym (named-with os bs h) ∙ ap (map named) is

below : (n m : ℕ) → n ≤ m → nat_lt m n ≡ false
below n m h = grind (arith, nat_tests)

above : (n m : ℕ) → m < n → nat_lt m n ≡ true
above n m h = grind (arith, nat_tests)

-- the bases and the room of a placement: those of the program, which is at `base` and ends at `end`, and
-- those of the objects that are placed after it
pub init-bases : (base end : ℕ) (os : List Named) → 0 < length os → end ≡ base + reach (order.file_at os 0)
    → bases_of (place base os) ≡ base ∷ bases_of (place_after end (drop 1 os))
init-bases base end os some is = first-base base os some ∙ ap (λ n. base ∷ bases_of (place_after n (drop 1 os))) (sym is)

pub init-room : (base end : ℕ) (os : List Named) → 0 < length os → end ≡ base + reach (order.file_at os 0) → end ≤ MEMORY_LIMIT
    → lacks_room (place base os) ≡ lacks_room (place_after end (drop 1 os))
init-room base end os some is low =
    first-room base os some ∙ ap (λ n. nat_lt MEMORY_LIMIT n || lacks_room (place_after n (drop 1 os))) (sym is)
    ∙ ap (λ b. b || lacks_room (place_after end (drop 1 os))) (below end MEMORY_LIMIT low)

-- if the program doesn't end above the limit, `PlacesWantMemory` is true
pub first-fits : (base end : ℕ) (os : List Named) → 0 < length os → end ≡ base + reach (order.file_at os 0) → end ≤ MEMORY_LIMIT
    → PlacesWantMemory (place base os)
first-fits base end [] some is low = absurd (omega (arith, some))
first-fits base end (o ∷ os) some is low = ap (λ n. nat_lt MEMORY_LIMIT n || false) (sym is) ∙ ap (λ b. b || false) (below end MEMORY_LIMIT low)

-- the bases and the room that are left: those of the next object, which is at `base` and ends at `new`,
-- and those of the objects that are placed after it
pub step-bases : (end base new i : ℕ) (os : List Named) → i < length os → base ≡ next_multiple_of end (unit (order.file_at os i)) → new ≡ base + reach (order.file_at os i)
    → bases_of (place_after end (drop i os)) ≡ base ∷ bases_of (place_after new (drop (i + 1) os))
step-bases end base new i os within at is =
    next-base end i os within ∙ ap (λ b. b ∷ bases_of (place_after (b + reach (order.file_at os i)) (drop (i + 1) os))) (sym at)
    ∙ ap (λ n. base ∷ bases_of (place_after n (drop (i + 1) os))) (sym is)

pub step-room : (end base new i : ℕ) (os : List Named) → i < length os → base ≡ next_multiple_of end (unit (order.file_at os i)) → new ≡ base + reach (order.file_at os i)
    → new ≤ MEMORY_LIMIT → lacks_room (place_after end (drop i os)) ≡ lacks_room (place_after new (drop (i + 1) os))
step-room end base new i os within at is low =
    next-room end i os within
    ∙ ap (λ b. nat_lt MEMORY_LIMIT (b + reach (order.file_at os i)) || lacks_room (place_after (b + reach (order.file_at os i)) (drop (i + 1) os))) (sym at)
    ∙ ap (λ n. nat_lt MEMORY_LIMIT n || lacks_room (place_after n (drop (i + 1) os))) (sym is)
    ∙ ap (λ b. b || lacks_room (place_after new (drop (i + 1) os))) (below new MEMORY_LIMIT low)

pub step-full : (end i : ℕ) (os : List Named) → i < length os → MEMORY_LIMIT < next_multiple_of end (unit (order.file_at os i)) + reach (order.file_at os i)
    → lacks_room (place_after end (drop i os)) ≡ true
step-full end i os within high =
    let new = next_multiple_of end (unit (order.file_at os i)) + reach (order.file_at os i) in
    next-room end i os within ∙ ap (λ b. b || lacks_room (place_after new (drop (i + 1) os))) (above new MEMORY_LIMIT high)
