-- The pieces in which lines are written to their writer (own; a pipe accepts a piece as a whole or not
-- at all: PIPE_BUF, pipe(7)).
use Rattle.std.specs.Prelude.{◌≡◌, ◌≢◌, ◌⊎◌, ◌≤◌, ℕ, List, [], ◌∷◌, ◌++◌, All, length, Option}
use Rattle.std.specs.Io.KnownBytes.{Appends}

-- the maximum size of a piece in bytes
abbrev pub most_piece : ℕ
most_piece = 4096

-- the text has no newline
abbrev pub IsWithinLine : List ℕ → Type 0
IsWithinLine text = All (λ b. b ≢ 10) text

-- the text ends within a line: it is empty, or its last byte isn't a newline
abbrev pub EndsWithinLine : List ℕ → Type 0
EndsWithinLine text = (text ≡ []) ⊎ ((front : List ℕ) × (last : ℕ) × (last ≢ 10) × (text ≡ front ++ last ∷ []))

-- Another piece may follow the piece: it has at most 4,096 bytes, and ends within a line. So a text
-- that ends after this piece ends within a line.
pub record IsFrontPiece (piece : List ℕ) : Type 0 where
  pub size : length piece ≤ most_piece
  pub within : EndsWithinLine piece

-- The writer's contents have grown by one piece, which another piece may follow. The piece may be
-- empty.
abbrev pub GetsFrontPiece : Option (List ℕ) → Option (List ℕ) → Type 0
GetsFrontPiece held holds = (piece : List ℕ) × IsFrontPiece piece × Appends held holds piece
