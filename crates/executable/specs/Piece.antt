-- The parts of an image that a file can load: the bytes of segments in pages with the same permissions (gABI chapter 5,
-- program loading).
use Rattle.std.specs.Prelude.{ℕ, ◌+◌, ◌-◌, ◌%◌, ◌==◌, Bool, not, ◌&&◌, nat_le, nat_lt, if◌then◌else◌}
use Rattle.std.specs.Prelude.{List, [], ◌∷◌, ◌++◌, length, map, take, drop, replicate}
use Rattle.std.specs.Int.RustNames.{bit_and, bit_or}
use Rattle.image.specs.Constant.{PAGE, PF_X, PF_W}
use Rattle.image.specs.Image.{ImageSegment}
use Rattle.image.specs.Loading.{Loaded}
use Rattle.image.specs.Permissions.{permission_bits}

-- the first address of the page of an address
abbrev pub page_of : ℕ → ℕ
page_of address = address - address % PAGE

-- the address at which a piece ends
abbrev pub end_of : Loaded → ℕ
end_of p = p.heading.address + p.heading.size

-- a segment as a piece
abbrev pub piece_of : ImageSegment → Loaded
piece_of s =
    record {
      heading = record { address = s.address; permissions = permission_bits s.permissions; size = length s.bytes };
      contents = s.bytes;
    }

-- the last page of piece `p` is the first page of piece `q`, which comes after it
abbrev pub shares_page : Loaded → Loaded → Bool
shares_page p q = nat_lt (page_of q.heading.address) (end_of p)

-- piece `p` and piece `q`, which comes after it, as one piece: with zeros between them, and with
-- the permissions of both
abbrev pub joined : Loaded → Loaded → Loaded
joined p q =
    record {
      heading = record {
        address = p.heading.address;
        permissions = bit_or p.heading.permissions q.heading.permissions;
        size = q.heading.address - p.heading.address + q.heading.size;
      };
      contents = p.contents ++ replicate (q.heading.address - p.heading.address - length p.contents) 0 ++ q.contents;
    }

-- the part of piece `p` below address `at`
abbrev pub below : ℕ → Loaded → Loaded
below at p =
    record {
      heading = record { address = p.heading.address; permissions = p.heading.permissions; size = at - p.heading.address };
      contents = take (at - p.heading.address) p.contents;
    }

-- the part of piece `p` from address `at` on
abbrev pub above : ℕ → Loaded → Loaded
above at p =
    record {
      heading = record { address = at; permissions = p.heading.permissions; size = end_of p - at };
      contents = drop (at - p.heading.address) p.contents;
    }

-- `bytes` without the zeros at their end
abbrev pub without_zeros : List ℕ → List ℕ
without_zeros [] = []
without_zeros (b ∷ rest) = let kept = without_zeros rest in if (b == 0) && (length kept == 0) then [] else b ∷ kept

-- A piece as the file has it. If the piece may be written, its contents end before the zeros at
-- their end, because only for such a piece does the kernel clear the rest of the last page.
abbrev pub finished : Loaded → Loaded
finished p =
    if bit_and p.heading.permissions PF_W == PF_W then record { heading = p.heading; contents = without_zeros p.contents } else p

-- the finished pieces, and the last piece, which may share a page with the next segment
pub record Pieces : Type 0 where
  pub done : List Loaded
  pub last : Loaded

-- the part of piece `p` below `page`; no piece if `p` doesn't begin below `page`
abbrev pub lower : ℕ → Loaded → List Loaded
lower page p = if nat_lt p.heading.address page then below page p ∷ [] else []

-- the part of piece `p` from `page` on
abbrev pub upper : ℕ → Loaded → Loaded
upper page p = if nat_lt p.heading.address page then above page p else p

-- Piece `q` begins in `page`, which has all of piece `p`. The result is `p` joined with the part of
-- `q` in this page. If `q` goes on after this page, its rest is another piece.
abbrev pub in_page : ℕ → Loaded → Loaded → Pieces
in_page page p q =
    if nat_le (end_of q) (page + PAGE) then record { done = []; last = joined p q }
    else record { done = joined p (below (page + PAGE) q) ∷ []; last = above (page + PAGE) q }

-- the pieces of piece `p` and of piece `q`, which comes after it and begins in `page`, the last
-- page of `p`
abbrev pub sharing : ℕ → Loaded → Loaded → Pieces
sharing page p q =
    let more = in_page page (upper page p) q in
    record { done = lower page p ++ more.done; last = more.last }

-- the pieces of piece `p` and of piece `q`, which comes after it
abbrev pub followed : Loaded → Loaded → Pieces
followed p q = if shares_page p q then sharing (page_of q.heading.address) p q else record { done = p ∷ []; last = q }

-- the pieces of piece `p` and of the segments after it; a segment without bytes has no piece
abbrev pub pieces_from : Loaded → List ImageSegment → List Loaded
pieces_from p [] = p ∷ []
pieces_from p (s ∷ rest) =
    if length s.bytes == 0 then pieces_from p rest
    else (followed p (piece_of s)).done ++ pieces_from (followed p (piece_of s)).last rest

-- the pieces of segments, before each piece that continues in the next one is joined to it
abbrev pub cut_pieces : List ImageSegment → List Loaded
cut_pieces [] = []
cut_pieces (s ∷ rest) = if length s.bytes == 0 then cut_pieces rest else pieces_from (piece_of s) rest

-- the permissions, as in p_flags, permit both writing and executing
abbrev pub is_both : ℕ → Bool
is_both flags = bit_and flags (PF_W + PF_X) == PF_W + PF_X

-- piece `p` continues in piece `q`, which comes after it: they have the same permissions, which
-- don't include both writing and executing, and no whole page lies between the file bytes of `p`
-- and those of `q`
abbrev pub goes_on : Loaded → Loaded → Bool
goes_on p q =
    (p.heading.permissions == q.heading.permissions) && not (is_both p.heading.permissions)
    && nat_lt (page_of q.heading.address) (p.heading.address + length p.contents + PAGE)

-- one joined piece if piece `p` continues in piece `q`, which comes after it, and otherwise both
-- pieces unchanged
abbrev pub merging : Loaded → Loaded → Pieces
merging p q = if goes_on p q then record { done = []; last = finished (joined p q) } else record { done = p ∷ []; last = q }

-- piece `p` and the pieces after it; each piece that continues in the next one is joined to it
abbrev pub merged_from : Loaded → List Loaded → List Loaded
merged_from p [] = p ∷ []
merged_from p (q ∷ rest) = (merging p q).done ++ merged_from (merging p q).last rest

-- all pieces; each piece that continues in the next one is joined to it
abbrev pub merged : List Loaded → List Loaded
merged [] = []
merged (p ∷ rest) = merged_from p rest

-- the pieces of segments, as the file has them
abbrev pub pieces_of : List ImageSegment → List Loaded
pieces_of segments = merged (map finished (cut_pieces segments))
