-- The steps in which pieces are made from segments and joined.
use Rattle.std.specs.Prelude.{ℕ, ◌≤◌, ◌≡◌, List, [], ◌∷◌, length, Option, Some, None}
use Rattle.image.specs.Constant.{MEMORY_LIMIT}
use Rattle.image.specs.Image.{ImageSegment}
use Rattle.image.specs.Loading.{Loaded}
use Rattle.executable.specs.Piece.{end_of, pieces_from, cut_pieces}

-- the pieces made of piece `p`, if there is one, and of the segments after it
abbrev pub pieces_after : Option Loaded → List ImageSegment → List Loaded
pieces_after None segments = cut_pieces segments
pieces_after (Some p) segments = pieces_from p segments

-- all bytes of a piece are in its contents
abbrev pub IsFull : Loaded → Type 0
IsFull p = length p.contents ≡ p.heading.size

-- all bytes of the piece are in its contents, and the piece ends at or below the address; true if
-- there is no piece
abbrev pub IsReady : Option Loaded → ℕ → Type 0
IsReady None address = Unit {0}
IsReady (Some p) address = IsFull p × (end_of p ≤ address)

-- a piece has no more bytes of contents than bytes of memory
abbrev pub IsShort : Loaded → Type 0
IsShort p = length p.contents ≤ p.heading.size

-- the pieces are in ascending order from address `from`, they end at or below the limit, and none has more bytes of
-- contents than bytes of memory
abbrev pub AreInRow : ℕ → List Loaded → Type 0
AreInRow from [] = Unit {0}
AreInRow from (p ∷ rest) = IsShort p × (from ≤ p.heading.address) × (end_of p ≤ MEMORY_LIMIT) × AreInRow (end_of p) rest
