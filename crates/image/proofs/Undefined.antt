-- The search for the first relocation whose value is undefined, over the relocations that are left.
use Rattle.std.proofs.Common.{◌≡◌, ℕ, ◌+◌, ◌<◌, ◌≤◌, Bool, true, false, cond, List, [], ◌∷◌, length, drop, map, Some, None, refl, sym, ap, ◌∙◌, Option, arith, zero-add, inl, inr}
use Rattle.std.specs.Prelude.{slice_get, ◌||◌}
use Rattle.std.specs.List.{find, range_with_len}
use Rattle.std.specs.Option.{option_map}
use Rattle.std.proofs.lemmas.List.{drop_more, drop_all}
use Rattle.std.proofs.lemmas.List.FromFn.{get_or-range_with_len, length-range_with_len}
use Rattle.std.proofs.lemmas.Option.{get_or_from_slice_get, slice_get_within}
use Rattle.elf_file.specs.FirstOf.{◌when◌, first_of}
use Rattle.elf_dynamic.specs.declared.relocation.Relocation.{Relocation}
use Rattle.image.specs.Placement.{Placed, ends_too_high, lacks_room}
use Rattle.image.specs.Refusal.{undefined_by, undefined_in, undefined_refusal, placed_refusal, PlacesWantMemory, IsFirstOrWantsMemory, IsPlacedAnswer}
use Rattle.image.specs.Relocating.{first_undefined}
use Rattle.image.specs.declared.refusal.BindRefusal.{BindRefusal}
use Rattle.image.specs.declared.refusal.BindRefusal.TheVariants.{NoRoom}

next : (p : Relocation → Bool) (rs : List Relocation) (i : ℕ) (r : Relocation) → slice_get rs i ≡ Some r → find p (drop i rs) ≡ find p (r ∷ drop (i + 1) rs)
next p rs i r at =
    ap (find p) (drop_more rs i r (slice_get_within rs i r at) ∙ ap (λ x. x ∷ drop (i + 1) rs) (get_or_from_slice_get rs i r r at))

-- if the next relocation isn't undefined, the search goes on after it
pub passed : (p : Relocation → Bool) (rs : List Relocation) (i : ℕ) (r : Relocation) → slice_get rs i ≡ Some r → p r ≡ false → find p (drop (i + 1) rs) ≡ find p (drop i rs)
passed p rs i r at h = sym (next p rs i r at ∙ ap (λ b. cond b (Some r) (find p (drop (i + 1) rs))) h)

-- if the next relocation is undefined, the search finds it
pub found : (p : Relocation → Bool) (rs : List Relocation) (i : ℕ) (r : Relocation) → slice_get rs i ≡ Some r → p r ≡ true → find p (drop i rs) ≡ Some r
found p rs i r at h = next p rs i r at ∙ ap (λ b. cond b (Some r) (find p (drop (i + 1) rs))) h

-- if no relocation is left, the search finds none
pub none-left : (p : Relocation → Bool) (rs : List Relocation) (i : ℕ) → length rs ≤ i → find p (drop i rs) ≡ None
none-left p rs i h = ap (find p) (drop_all i rs h)

-- an object without an undefined relocation has no refusal
pub undefined-none : (objects : List Placed) (own : ℕ) → first_undefined objects own ≡ None → undefined_in objects own ≡ None
unfolding undefined_in
undefined-none objects own h = ap (option_map (undefined_by objects own)) h

pub undefined-some : (objects : List Placed) (own : ℕ) (r : Relocation) → first_undefined objects own ≡ Some r → undefined_in objects own ≡ Some (undefined_by objects own r)
unfolding undefined_in
undefined-some objects own r h = ap (option_map (undefined_by objects own)) h

place-next : (n i : ℕ) → i < n → drop i (range_with_len 0 n) ≡ i ∷ drop (i + 1) (range_with_len 0 n)
place-next n i h =
    drop_more (range_with_len 0 n) i 0 (omega (arith, h, length-range_with_len 0 n))
    ∙ ap (λ k. k ∷ drop (i + 1) (range_with_len 0 n)) (get_or-range_with_len 0 n i 0 h ∙ zero-add i)

then-next : (f : ℕ → Option BindRefusal) (n i : ℕ) (o : Option BindRefusal) → i < n → f i ≡ o
    → first_of (map f (drop i (range_with_len 0 n))) ≡ first_of (o ∷ map f (drop (i + 1) (range_with_len 0 n)))
then-next f n i o h is =
    ap (λ ks. first_of (map f ks)) (place-next n i h) ∙ ap (λ o. first_of (o ∷ map f (drop (i + 1) (range_with_len 0 n)))) is

-- if object number i has no refusal, the search goes on after it
pub object-passed : (f : ℕ → Option BindRefusal) (n i : ℕ) → i < n → f i ≡ None
    → first_of (map f (drop (i + 1) (range_with_len 0 n))) ≡ first_of (map f (drop i (range_with_len 0 n)))
object-passed f n i h none = sym (then-next f n i None h none)

-- if object number i has a refusal, the search finds this refusal
pub object-found : (f : ℕ → Option BindRefusal) (n i : ℕ) (e : BindRefusal) → i < n → f i ≡ Some e
    → first_of (map f (drop i (range_with_len 0 n))) ≡ Some e
object-found f n i e h is = then-next f n i (Some e) h is

-- if no object is left, the search finds no refusal
pub no-object : (f : ℕ → Option BindRefusal) (n i : ℕ) → n ≤ i → first_of (map f (drop i (range_with_len 0 n))) ≡ None
no-object f n i h = ap (λ ks. first_of (map f ks)) (drop_all i (range_with_len 0 n) (omega (arith, h, length-range_with_len 0 n)))

-- if the refusal of a part is also the first refusal, an answer about the part is an answer about the
-- whole
pub refused-by : (first o : Option BindRefusal) (e : BindRefusal) → (o ≡ Some e → first ≡ Some e) → IsFirstOrWantsMemory o e → IsFirstOrWantsMemory first e
refused-by first o e f (inl is) = inl (f is)
refused-by first o e f (inr is) = inr is

room-by : (room : Bool) (o : Option BindRefusal) → room ≡ true → first_of ((NoRoom when room) ∷ o ∷ []) ≡ Some NoRoom
room-by true o h = refl
room-by false o h = cc

left-by : (room : Bool) (o : Option BindRefusal) → room ≡ false → first_of ((NoRoom when room) ∷ o ∷ []) ≡ o
left-by true o h = cc
left-by false None h = refl
left-by false (Some e) h = refl

-- placed objects without room are refused as `NoRoom`; with room, the undefined relocations decide
pub placed-room : (objects : List Placed) → lacks_room objects ≡ true → placed_refusal objects ≡ Some NoRoom
unfolding placed_refusal
placed-room objects h = room-by (lacks_room objects) (undefined_refusal objects) h

pub placed-left : (objects : List Placed) → lacks_room objects ≡ false → placed_refusal objects ≡ undefined_refusal objects
unfolding placed_refusal
placed-left objects h = left-by (lacks_room objects) (undefined_refusal objects) h

-- if there is room for all objects, there is room for the first one by itself
pub some-fits : (objects : List Placed) → lacks_room objects ≡ false → PlacesWantMemory objects
some-fits [] h = refl
some-fits (o ∷ rest) h = by (ends_too_high o) (lacks_room rest) h
  where
    by : (first others : Bool) → (first || others) ≡ false → (first || false) ≡ false
    by true others h = cc
    by false others h = refl

-- if `PlacesWantMemory`, the first refusal or refused memory is an answer of a bind of placed objects
pub placed-wants : (objects : List Placed) (e : BindRefusal) → PlacesWantMemory objects → IsFirstOrWantsMemory (placed_refusal objects) e → IsPlacedAnswer objects e
placed-wants objects e w (inl h) = inl h
placed-wants objects e w (inr h) = inr (h, w)
