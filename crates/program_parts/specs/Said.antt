-- The messages of a program on standard error (own).
use Rattle.std.specs.Prelude.{ℕ, List, take, Option}
use Rattle.std.specs.Io.KnownBytes.{Appends}

-- exactly a prefix of `text` was appended; the prefix may be empty
abbrev pub AppendsFront : Option (List ℕ) → Option (List ℕ) → List ℕ → Type 0
AppendsFront before after text = (n : ℕ) × Appends before after (take n text)
