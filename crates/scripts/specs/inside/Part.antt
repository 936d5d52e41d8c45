-- A line that is read in several parts.
use Rattle.std.specs.Prelude.{ℕ, List, Option, Some, None}
use Rattle.std.specs.Io.KnownBytes.{Consumes}
use Rattle.scripts.specs.Line.{IsLine}
use Rattle.scripts.specs.Reading.{GotLine}
use Rattle.scripts.specs.declared.reading.Got.{Got}

-- The part of a line that was read so far. If the line has ended, it is the whole line, with the
-- result of the read.
abbrev pub GotPart : Option (List ℕ) → Option (List ℕ) → List ℕ → Option Got → Type 0
GotPart before after line (Some got) = GotLine before after line got
GotPart before after line None = Consumes before after line × IsLine line
