-- Memory that may be written and executed although no segment in it requests both (own).
use Rattle.std.specs.Prelude.{ℕ, ◌+◌, ◌==◌, ◌&&◌, not, nat_lt, Bool, if◌then◌else◌, List, [], ◌∷◌, length, take, drop, Option}
use Rattle.std.specs.List.{list_any, find}
use Rattle.std.specs.Option.{option_map}
use Rattle.image.specs.Image.{ImageSegment, MemoryImage}
use Rattle.image.specs.Loading.{Loaded}
use Rattle.image.specs.Permissions.{permission_bits}
use Rattle.image.specs.declared.object.ImageObject.{ImageObject}
use Rattle.executable.specs.Piece.{end_of, is_both, pieces_of}

-- the segment has a byte within the piece
abbrev pub meets : Loaded → ImageSegment → Bool
meets p s = not (length s.bytes == 0) && nat_lt s.address (end_of p) && nat_lt p.heading.address (s.address + length s.bytes)

-- a piece may be written and executed, although no segment that has a byte in it requests both
abbrev pub is_unasked : List ImageSegment → Loaded → Bool
is_unasked segments p =
    is_both p.heading.permissions && not (list_any (λ s. meets p s && is_both (permission_bits s.permissions)) segments)

-- the name of the first object that has a segment with a byte in piece `p`; `segments` are those of
-- the objects, one object after the other
abbrev pub owner_among : Loaded → List ImageObject → List ImageSegment → List ℕ
owner_among p [] segments = []
owner_among p (o ∷ rest) segments =
    if list_any (meets p) (take o.segment_count segments) then o.name else owner_among p rest (drop o.segment_count segments)

-- the name of the first object that has a segment with a byte in the first piece that may be
-- written and executed although no segment in it requests both, or none if there is no such piece
abbrev pub first_unasked : MemoryImage → Option (List ℕ)
first_unasked image =
    option_map (λ p. owner_among p image.objects image.segments) (find (is_unasked image.segments) (pieces_of image.segments))
