-- The text that a command prints.
use Rattle.std.specs.Prelude.{ℕ, List, length, Option, ◌<◌}
use Rattle.commands.specs.declared.show.Shown.TheVariants as shown
use Rattle.program_parts.specs.File.{read_limit}
use Rattle.commands.specs.RunImage.{Shows}

-- exactly the text of the image of some file at `base` was appended
abbrev pub PrintsImage : ℕ → Option (List ℕ) → Option (List ℕ) → Type 0
PrintsImage base before after = (file : List ℕ) × (length file < read_limit) × Shows file base before after shown.Image

-- exactly the text of the refusal of some file at `base` was appended
abbrev pub PrintsRefusal : ℕ → Option (List ℕ) → Option (List ℕ) → Type 0
PrintsRefusal base before after = (file : List ℕ) × (length file < read_limit) × Shows file base before after shown.Refused
