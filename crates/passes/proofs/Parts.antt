-- Single sectors in two parts, of which one is written before the bytes of a file, and the other after them.
use Rattle.std.proofs.Common.{◌≡◌, ℕ, ◌+◌, ◌-◌, ◌<◌, List, ◌++◌, length, get_or, take, drop, sym, ap, subst, ◌∙◌, refl, arith}
use Rattle.std.specs.Prelude.{Result, Ok, Err, OnOk}
use Rattle.std.specs.List.{Contains}
use Rattle.std.proofs.lemmas.List.{take-append-drop, map-append, length-append, get_or_append_left, get_or-append_right}
use Rattle.std.proofs.lemmas.List.Elements.{Contains-append_left, Contains-append_right, All-append, All-get_or, All-from_get_or}
use Rattle.sector_disk.specs.Disk.{Sector, sector, SameBut}
use Rattle.extents.specs.Extent.{AreDistinct}
use Rattle.passes.specs.Singles.{single_places, HoldsSingles}
use Rattle.passes.specs.declared.single.SingleSector.{SingleSector}
use Rattle.passes.proofs.Singles.{no_single, place_among}

-- if the numbers of two joined lists are distinct, no number is in both lists
pub distinct-parts : (xs ys : List ℕ) (s : ℕ) → AreDistinct (xs ++ ys) → Contains xs s → Contains ys s → ⊥
distinct-parts xs ys s distinct (i, in_xs, at_i) (j, in_ys, at_j) =
    let lt : i < length xs + j = omega (arith, in_xs) in
    let fits : length xs + j < length (xs ++ ys) = omega (arith, in_ys, length-append xs ys) in
    let front = get_or_append_left xs ys s i in_xs in
    let back : get_or (xs ++ ys) (length xs + j) s ≡ get_or ys j s = get_or-append_right xs ys (length xs) (length xs + j) s refl (omega arith)
    ∙ ap (λ n. get_or ys n s) (let e : length xs + j - length xs ≡ j = omega arith in e) in
    distinct i (length xs + j) s lt fits (front ∙ at_i ∙ sym (back ∙ at_j))

-- the first part of a list without repetitions has no repetitions
pub distinct-first : (xs ys : List ℕ) → AreDistinct (xs ++ ys) → AreDistinct xs
distinct-first xs ys distinct i j d lt fits = λ same.
    distinct i j d lt (omega (arith, fits, length-append xs ys)) (get_or_append_left xs ys d i (omega (arith, lt, fits)) ∙ same ∙ sym (get_or_append_left xs ys d j fits))

pub distinct-last : (xs ys : List ℕ) → AreDistinct (xs ++ ys) → AreDistinct ys
distinct-last xs ys distinct i j d lt fits = λ same.
    distinct (length xs + i) (length xs + j) d (omega (arith, lt)) (omega (arith, fits, length-append xs ys)) (at i ∙ same ∙ sym (at j))
  where
    at : (k : ℕ) → get_or (xs ++ ys) (length xs + k) d ≡ get_or ys k d
    at k = get_or-append_right xs ys (length xs) (length xs + k) d refl (omega arith) ∙ ap (λ n. get_or ys n d) (let e : length xs + k - length xs ≡ k = omega arith in e)

-- The single sectors are two parts.
pub record AreParts (singles front back : List SingleSector) : Type 0 where
  pub whole : front ++ back ≡ singles

pub parts_of : (n : ℕ) (singles front back : List SingleSector) → front ≡ take n singles → back ≡ drop n singles → AreParts singles front back
parts_of n singles front back is_front is_back = record { whole = (λ i. is_front i ++ is_back i) ∙ take-append-drop n singles }

module _ {singles front back : List SingleSector} (parts : AreParts singles front back) where
  pub places_whole : single_places front ++ single_places back ≡ single_places singles
  places_whole = sym (map-append (λ (s : SingleSector). s.at) front back) ∙ ap single_places parts.whole

  pub front_among : (k : ℕ) → Contains (single_places front) k → Contains (single_places singles) k
  front_among k found = subst (λ l. Contains l k) places_whole (Contains-append_left (single_places front) (single_places back) k found)

  pub back_among : (k : ℕ) → Contains (single_places back) k → Contains (single_places singles) k
  back_among k found = subst (λ l. Contains l k) places_whole (Contains-append_right (single_places front) (single_places back) k found)

  pub front_once : AreDistinct (single_places singles) → AreDistinct (single_places front)
  front_once once = distinct-first (single_places front) (single_places back) (subst AreDistinct (sym places_whole) once)

  pub back_once : AreDistinct (single_places singles) → AreDistinct (single_places back)
  back_once once = distinct-last (single_places front) (single_places back) (subst AreDistinct (sym places_whole) once)

  pub parts_apart : AreDistinct (single_places singles) → (k : ℕ) → Contains (single_places front) k → Contains (single_places back) k → ⊥
  parts_apart once k = distinct-parts (single_places front) (single_places back) k (subst AreDistinct (sym places_whole) once)

  pub whole_held : (m : List Sector) → HoldsSingles m front → HoldsSingles m back → HoldsSingles m singles
  whole_held m first last = subst (HoldsSingles m) parts.whole (All-append (λ (s : SingleSector). sector m s.at ≡ s.content) front back first last)

-- the single sectors still hold their contents after other sectors are written
pub still_held : (some : ℕ → Type 0) (old new : List Sector) (singles : List SingleSector) → SameBut some old new
    → ((k : ℕ) → Contains (single_places singles) k → some k → ⊥) → HoldsSingles old singles → HoldsSingles new singles
still_held some old new singles same apart held =
    All-from_get_or (λ (s : SingleSector). sector new s.at ≡ s.content) singles no_single
    (λ i lt. same.others (get_or singles i no_single).at (apart (get_or singles i no_single).at (place_among singles i no_single lt))
    ∙ All-get_or (λ (s : SingleSector). sector old s.at ≡ s.content) singles i no_single lt held)

-- two facts of an Ok result imply a third one
pub on_ok_both : {T E P Q R : Type 0} (r : Result T E) → (P → Q → R) → OnOk r P → OnOk r Q → OnOk r R
on_ok_both (Ok x) f p q = f p q
on_ok_both (Err e) f p q = tt
