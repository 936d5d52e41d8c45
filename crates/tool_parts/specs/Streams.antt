-- The text that a form writes to its output and to standard error (own).
use Rattle.std.specs.Prelude.{◌≡◌, ◌⊎◌, ℕ, List, Option}
use Rattle.std.specs.Io.KnownBytes.{Appends}
use Rattle.program_parts.specs.Said.{AppendsFront}
use Rattle.program_parts.specs.declared.status.Status.{Status}
use Rattle.program_parts.specs.declared.status.Status.TheVariants.{Failed}
use Rattle.tool_parts.specs.Said.{cannot_write_line}

-- the bytes of the output and of standard error before and after; each is none if it isn't known
pub record Streams : Type 0 where
  pub before : Option (List ℕ)
  pub after : Option (List ℕ)
  pub errors_before : Option (List ℕ)
  pub errors_after : Option (List ℕ)

-- nothing was written to the output
abbrev pub IsUntold : Streams → Type 0
IsUntold io = io.after ≡ io.before

-- nothing was written to standard error
abbrev pub IsSilent : Streams → Type 0
IsSilent io = io.errors_after ≡ io.errors_before

-- exactly this text was written to the output
abbrev pub Tells : Streams → List ℕ → Type 0
Tells io text = Appends io.before io.after text

-- exactly a prefix of this line was written to standard error; the prefix may be empty
abbrev pub Says : Streams → List ℕ → Type 0
Says io line = AppendsFront io.errors_before io.errors_after line

-- the output failed, and standard error reports only this
abbrev pub CannotWrite : Streams → Status → Type 0
CannotWrite io status = (status ≡ Failed) × Says io cannot_write_line

-- Exactly `text` was written to the output, nothing was written to standard error, and the status
-- is `ends`; or the output failed.
abbrev pub TellsOnly : Status → List ℕ → Streams → Status → Type 0
TellsOnly ends text io status = ((status ≡ ends) × Tells io text × IsSilent io) ⊎ CannotWrite io status

-- nothing was written to the output, at most `line` was written to standard error, and the status is
-- `ends`
abbrev pub SaysOnly : Status → List ℕ → Streams → Status → Type 0
SaysOnly ends line io status = (status ≡ ends) × IsUntold io × Says io line
