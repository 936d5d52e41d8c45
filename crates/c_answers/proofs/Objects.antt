-- Lemmas about the places of an image's objects, and about their names, to which one object is added.
use Rattle.std.proofs.Common.{◌≡◌, ℕ, ◌+◌, ◌<◌, ◌≤◌, zero, suc, List, [], ◌∷◌, ◌++◌, length, get_or, take, sum_by, sym, ◌∙◌, ap, append_assoc, arith}
use Rattle.std.proofs.lemmas.List.{take_more, length-append}
use Rattle.std.proofs.lemmas.List.Sums.{sum_by-cons}
use Rattle.image.specs.declared.object.ImageObject.{ImageObject}
use Rattle.c_answers.specs.Objects.{object_place, object_places, object_names}
use Rattle.c_answers.proofs.Rows.{rows_more, size_more, size_within}

-- the bytes of an object's name in the row
abbrev pub row : ImageObject → List ℕ
row o = o.name ++ 0 ∷ []

abbrev pub segments_of : List ImageObject → ℕ
segments_of objects = sum_by (λ o. o.segment_count) objects

segments_first : (x : ImageObject) (objects : List ImageObject) → segments_of (x ∷ objects) ≡ x.segment_count + segments_of objects
segments_first x objects = sum_by-cons (λ (o : ImageObject). o.segment_count) x objects

-- if one object is appended, its place is appended to the places of the others
object_more : (name first : ℕ) (objects : List ImageObject) (o : ImageObject)
    → object_places name first (objects ++ o ∷ []) ≡ object_places name first objects
    ++ object_place (name + length (object_names objects)) (first + segments_of objects) o ∷ []
object_more name first [] o = ap (λ n. object_place n first o ∷ []) (omega arith) ∙ ap (λ n. object_place (name + 0) n o ∷ []) (omega arith)
object_more name first (x ∷ objects) o =
    ap (λ l. object_place name first x ∷ l) (object_more (name + length x.name + 1) (first + x.segment_count) objects o
    ∙ ap (λ n. object_places (name + length x.name + 1) (first + x.segment_count) objects
    ++ object_place n (first + x.segment_count + segments_of objects) o ∷ [])
    (omega (arith, length-append x.name (0 ∷ []), length-append (x.name ++ 0 ∷ []) (object_names objects)))
    ∙ ap (λ n. object_places (name + length x.name + 1) (first + x.segment_count) objects
    ++ object_place (name + length (object_names (x ∷ objects))) n o ∷ []) (omega (arith, segments_first x objects)))

pub segments_more : (objects : List ImageObject) (i : ℕ) (d : ImageObject) → i < length objects → segments_of (take (i + 1) objects) ≡ segments_of (take i objects) + (get_or objects i d).segment_count
segments_more (x ∷ objects) zero d lt = omega (arith, segments_first x [])
segments_more (x ∷ objects) (suc i) d lt =
    let next : suc i + 1 ≡ suc (i + 1) = omega arith in
    ap (λ n. segments_of (take n (x ∷ objects))) next ∙ omega (arith, segments_first x (take (i + 1) objects), segments_first x (take i objects), segments_more objects i d (omega (arith, lt)))
segments_more [] i d lt = absurd (omega (arith, lt))

pub segments_le : (objects : List ImageObject) (i : ℕ) → segments_of (take i objects) ≤ segments_of objects
segments_le objects zero = omega arith
segments_le [] (suc i) = omega arith
segments_le (x ∷ objects) (suc i) = omega (arith, segments_first x (take i objects), segments_first x objects, segments_le objects i)

-- The names begin at the offset `from`, the first `i` objects are in the buffers, and `o` is the next
-- object.
module _ (from : ℕ) (objects : List ImageObject) (i : ℕ) (o : ImageObject) (lt : i < length objects) (is : o ≡ get_or objects i o) (at : ℕ)
    (at_is : at ≡ from + length (object_names (take i objects))) where
  pub end_more : (at' : ℕ) → at' ≡ at + length o.name + 1 → at' ≡ from + length (object_names (take (i + 1) objects))
  end_more at' end = omega (arith, at_is, end, size_more row objects i o lt, ap (λ (y : ImageObject). length (row y)) is, length-append o.name (0 ∷ []))

  pub names_more : (front old new : List ℕ) (at' : ℕ) → take at old ≡ front ++ object_names (take i objects) → take at' new ≡ take at old
      ++ (o.name ++ 0 ∷ []) → take at' new ≡ front ++ object_names (take (i + 1) objects)
  names_more front old new at' was put =
      put ∙ ap (λ l. l ++ row o) was ∙ append_assoc front (object_names (take i objects)) (row o)
      ∙ ap (λ l. front ++ l) (ap (λ (y : ImageObject). object_names (take i objects) ++ row y) is ∙ sym (rows_more row objects i o lt))

  pub room_lacks : (n : ℕ) → n < at + length o.name + 1 → n < from + length (object_names objects)
  room_lacks n small = omega (arith, at_is, small, size_within row objects i o lt, ap (λ (y : ImageObject). length (row y)) is, length-append o.name (0 ∷ []))

  pub places_more : (first : ℕ) → first ≡ segments_of (take i objects) → object_places from 0 (take i objects) ++ object_place at first o ∷ [] ≡ object_places from 0 (take (i + 1) objects)
  places_more first first_is =
      ap (λ n. object_places from 0 (take i objects) ++ object_place n first o ∷ []) at_is
      ∙ ap (λ n. object_places from 0 (take i objects) ++ object_place (from + length (object_names (take i objects))) n o ∷ []) (omega (arith, first_is))
      ∙ sym (object_more from 0 (take i objects) o)
      ∙ ap (object_places from 0) (ap (λ (x : ImageObject). take i objects ++ x ∷ []) is ∙ sym (take_more objects i o lt))
