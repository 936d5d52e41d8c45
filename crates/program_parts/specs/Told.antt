-- The text that a program writes to its output (own).
use Rattle.std.specs.Prelude.{◌≡◌, ◌⊎◌, ℕ, List, Option}
use Rattle.std.specs.Io.KnownBytes.{Appends}
use Rattle.program_parts.specs.declared.status.Status.{Status}
use Rattle.program_parts.specs.declared.status.Status.TheVariants.{Failed}

-- Exactly `text` was appended, and the status is `ends`; or the writer failed, and the status is
-- Failed.
abbrev pub IsTold : Status → List ℕ → Option (List ℕ) → Option (List ℕ) → Status → Type 0
IsTold ends text before after status = ((status ≡ ends) × Appends before after text) ⊎ (status ≡ Failed)
