-- The PT_LOADs of all objects, one object above the other.
use Rattle.std.proofs.Common.{◌≡◌, ℕ, ◌+◌, ◌<◌, ◌≤◌, List, [], ◌∷◌, ◌++◌, length, map, take, get_or, None, refl, sym, ap, append-nil, ◌∙◌, arith, suc, zero, subst}
use Rattle.std.specs.List.{All}
use Rattle.std.proofs.lemmas.List.Elements.{All-append}
use Rattle.std.proofs.lemmas.List.{map-append, take_more}
use Rattle.std.proofs.lemmas.List.Concat.{flat_map-append}
use Rattle.std.proofs.lemmas.Simd.{map-map}
use Rattle.elf_file.specs.Segment.{loads}
use Rattle.elf_dynamic.specs.Refusal.{first_refusal}
use Rattle.image.specs.Bound.{AllAccepted}
use Rattle.image.specs.Constant.{MEMORY_LIMIT}
use Rattle.image.specs.Heading.{Heading}
use Rattle.image.specs.Loading.{Loaded, heading_at, loaded_at, loaded_of, all_loaded}
use Rattle.image.specs.Placement.{Placed, Stacked, reach, end_of}
use Rattle.image.specs.Relocating.{base_at, file_at, name_at}
use Rattle.image.specs.inside.Segments.{Rising}
use Rattle.image.proofs.Placing.{loads-rising, loads-end}

-- the headings of the PT_LOADs of all objects
abbrev pub headings_of : List Placed → List Heading
headings_of objects = map (λ l. l.heading) (all_loaded objects)

pub headings-loaded : (p : Placed) → map (λ l. l.heading) (loaded_of p) ≡ map (heading_at p.base) (loads p.file)
headings-loaded p = map-map (λ (l : Loaded). l.heading) (loaded_at p.base p.file) (loads p.file)

headings-cons : (p : Placed) (ps : List Placed) → headings_of (p ∷ ps) ≡ map (heading_at p.base) (loads p.file) ++ headings_of ps
headings-cons p ps =
    map-append (λ (l : Loaded). l.heading) (loaded_of p) (all_loaded ps) ∙ ap (λ hs. hs ++ headings_of ps) (headings-loaded p)

pub rising-weaken : (from m : ℕ) (hs : List Heading) → from ≤ m → Rising m hs → Rising from hs
rising-weaken from m [] l r = tt
rising-weaken from m (h ∷ hs) l r = (omega (arith, r.0, l), r.1)

-- if headings `hs` rise and end at or below m, and headings `ks` rise from m, then `hs` followed by `ks`
-- rise
pub rising-append : (from m : ℕ) (hs ks : List Heading) → Rising from hs → from ≤ m → All (λ h. h.address + h.size ≤ m) hs → Rising m ks → Rising from (hs ++ ks)
rising-append from m [] ks r l e k = rising-weaken from m ks l k
rising-append from m (h ∷ hs) ks r l e k =
    (r.0, rising-append (h.address + h.size) m hs ks r.1 (e 0 h (omega arith)) (λ i d j. e (suc i) d (omega (arith, j))) k)

-- the headings of all objects rise
pub stack-rising : (from : ℕ) (objects : List Placed) → Stacked from objects → AllAccepted objects → Rising from (headings_of objects)
stack-rising from [] s a = tt
stack-rising from (p ∷ ps) s a =
    let hs = map (heading_at p.base) (loads p.file) in
    subst (Rising from) (sym (headings-cons p ps))
    (rising-append from (end_of p) hs (headings_of ps) (rising-weaken from p.base hs s.0 (loads-rising p.base p.file (a 0 p (omega arith))))
    (omega (arith, s.0)) (loads-end p.base p.file) (stack-rising (end_of p) ps s.2 (λ k d l. a (suc k) d (omega (arith, l)))))

-- object number i ends at or below the limit
pub low-at : (from : ℕ) (objects : List Placed) (i : ℕ) → Stacked from objects → i < length objects → base_at objects i + reach (file_at objects i) ≤ MEMORY_LIMIT
low-at from [] i s h = absurd (omega (arith, h))
low-at from (p ∷ ps) zero s h = s.1
low-at from (p ∷ ps) (suc i) s h = low-at (end_of p) ps i s.2 (omega (arith, h))

-- the file of object number i is accepted
pub accepted-at : (objects : List Placed) (i : ℕ) → AllAccepted objects → i < length objects → first_refusal (file_at objects i) ≡ None
accepted-at [] i a h = absurd (omega (arith, h))
accepted-at (p ∷ ps) zero a h = a 0 p (omega arith)
accepted-at (p ∷ ps) (suc i) a h = accepted-at ps i (λ k d l. a (suc k) d (omega (arith, l))) (omega (arith, h))

-- object number i
abbrev pub placed_of : List Placed → ℕ → Placed
placed_of objects i = record { name = name_at objects i; file = file_at objects i; base = base_at objects i }

pub get-placed : (objects : List Placed) (i : ℕ) (d : Placed) → i < length objects → get_or objects i d ≡ placed_of objects i
get-placed [] i d h = absurd (omega (arith, h))
get-placed (p ∷ ps) zero d h = refl
get-placed (p ∷ ps) (suc i) d h = get-placed ps i d (omega (arith, h))

base-above : (from : ℕ) (objects : List Placed) (i : ℕ) → Stacked from objects → i < length objects → from ≤ base_at objects i
base-above from [] i s h = absurd (omega (arith, h))
base-above from (p ∷ ps) zero s h = s.0
base-above from (p ∷ ps) (suc i) s h = omega (arith, s.0, base-above (end_of p) ps i s.2 (omega (arith, h)))

-- the PT_LOADs of all objects before number i end at or below the base of object number i
pub stack-ends : (from : ℕ) (objects : List Placed) (i : ℕ) → Stacked from objects → i < length objects → All (λ h. h.address + h.size ≤ base_at objects i) (headings_of (take i objects))
stack-ends from [] i s h = absurd (omega (arith, h))
stack-ends from (p ∷ ps) zero s h = λ k d l. absurd (omega (arith, l))
stack-ends from (p ∷ ps) (suc i) s h =
    let high : end_of p ≤ base_at ps i = base-above (end_of p) ps i s.2 (omega (arith, h)) in
    let ends = λ (g : Heading). g.address + g.size ≤ base_at ps i in
    subst (All ends) (sym (headings-cons p (take i ps)))
    (All-append ends (map (heading_at p.base) (loads p.file)) (headings_of (take i ps))
    (λ k d l. omega (arith, loads-end p.base p.file k d l, high)) (stack-ends (end_of p) ps i s.2 (omega (arith, h))))

-- the PT_LOADs of the first i + 1 objects are those of the first i, followed by those of object number i
pub loaded-more : (objects : List Placed) (i : ℕ) → i < length objects → all_loaded (take (i + 1) objects) ≡ all_loaded (take i objects) ++ loaded_of (placed_of objects i)
loaded-more objects i h =
    let d = placed_of objects i in
    ap all_loaded (take_more objects i d h ∙ ap (λ p. take i objects ++ p ∷ []) (get-placed objects i d h))
    ∙ flat_map-append loaded_of (take i objects) (d ∷ []) ∙ ap (λ ls. all_loaded (take i objects) ++ ls) (append-nil (loaded_of d))

pub mapped-more : {X : Type 0} (f : Placed → X) (objects : List Placed) (i : ℕ) → i < length objects
    → map f (take (i + 1) objects) ≡ map f (take i objects) ++ f (placed_of objects i) ∷ []
mapped-more f objects i h =
    let d = placed_of objects i in
    ap (map f) (take_more objects i d h ∙ ap (λ p. take i objects ++ p ∷ []) (get-placed objects i d h))
    ∙ map-append f (take i objects) (d ∷ [])
