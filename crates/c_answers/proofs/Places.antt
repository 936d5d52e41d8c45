-- Lemmas about the places of an image's segments and of a listing's entries, to which one is added.
use Rattle.std.proofs.Common.{◌≡◌, ℕ, ◌+◌, List, [], ◌∷◌, ◌++◌, length, ◌∙◌, ap, arith}
use Rattle.std.proofs.lemmas.List.{length-append}
use Rattle.image.specs.Image.{ImageSegment}
use Rattle.c_answers.specs.Buffers as buffers
use Rattle.c_answers.specs.Listing as listing

-- if one segment is appended, its place is appended to the places of the others
pub segment_more : (from : ℕ) (segments : List ImageSegment) (s : ImageSegment)
    → buffers.places_of from (segments ++ s ∷ []) ≡ buffers.places_of from segments
    ++ buffers.places_of (from + length (buffers.segment_bytes segments)) (s ∷ [])
segment_more from [] s = ap (λ n. buffers.places_of n (s ∷ [])) (omega arith)
segment_more from (x ∷ segments) s =
    ap (λ l. buffers.place_of from x ∷ l) (segment_more (from + length x.bytes) segments s
    ∙ ap (λ n. buffers.places_of (from + length x.bytes) segments ++ buffers.places_of n (s ∷ [])) (omega (arith, length-append x.bytes (buffers.segment_bytes segments))))

-- the places of two joined lists of entries are those of the first list and then those of the second
pub entries_more : (from : ℕ) (xs ys : List listing.Entry) → listing.places_of from (xs ++ ys) ≡ listing.places_of from xs ++ listing.places_of (from + length (listing.names_in_row xs)) ys
entries_more from [] ys = ap (λ n. listing.places_of n ys) (omega arith)
entries_more from (x ∷ xs) ys =
    ap (λ l. listing.place_of from x ∷ l) (entries_more (from + length x.0 + 1) xs ys
    ∙ ap (λ n. listing.places_of (from + length x.0 + 1) xs ++ listing.places_of n ys) (omega (arith, length-append x.0 (0 ∷ []), length-append (x.0 ++ 0 ∷ []) (listing.names_in_row xs))))
