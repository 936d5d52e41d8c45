-- The results of one read of a line (own).
use Rattle.std.specs.Prelude.{◌≡◌, ◌==◌, true, ℕ, ◌<◌, List, [], length, Option, IfSome}
use Rattle.std.specs.List.{list_any}
use Rattle.std.specs.Io.{StopsAt}
use Rattle.std.specs.Io.KnownBytes.{Appends, Consumes}
use Rattle.scripts.specs.Line.{IsLine, ended}
use Rattle.scripts.specs.declared.fault.ScriptFault.{ScriptFault}
use Rattle.scripts.specs.declared.fault.ScriptFault.TheVariants.{Write}
use Rattle.scripts.specs.declared.reading.Got.{Got}
use Rattle.scripts.specs.declared.reading.Got.TheVariants.{Whole, Cut, End}

-- the bytes of a reader, if they are known, are `bytes`
abbrev pub IsAll : Option (List ℕ) → List ℕ → Type 0
IsAll known bytes = IfSome known (λ text. text ≡ bytes)

-- one of these bytes is a newline
abbrev pub HasLine : List ℕ → Type 0
HasLine bytes = list_any (λ b. b == 10) bytes ≡ true

-- The result of one read of a line: a whole line, the bytes after the last newline, or nothing.
abbrev pub GotLine : Option (List ℕ) → Option (List ℕ) → List ℕ → Got → Type 0
GotLine before after line Whole = Consumes before after (ended line) × IsLine line
GotLine before after line Cut = IsAll before line × Consumes before after line × IsLine line × (0 < length line)
GotLine before after line End = IsAll before [] × Consumes before after []

-- A line couldn't be read. The writer had failed before, and nothing was read; or a part of the
-- line was read, and the written and the buffered text are unchanged.
abbrev pub Unread : Option (List ℕ) → Option (List ℕ) → Option (List ℕ) → Option (List ℕ) → List ℕ → ScriptFault → Type 0
Unread before after waits now line Write = after ≡ before
Unread before after waits now line fault = Consumes before after line × StopsAt line 10 × Appends waits now []
