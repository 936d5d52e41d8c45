-- The text that is written for the image of a program.
use Rattle.std.specs.Prelude.{ℕ, List, Option, Some, None, ◌≡◌}
use Rattle.std.specs.Io.KnownBytes.{Appends}
use Rattle.image.specs.declared.refusal.BindRefusal.{BindRefusal}
use Rattle.image.specs.Placement.{alone}
use Rattle.image.specs.Image.{image_of}
use Rattle.image.specs.Text.{image_text}
use Rattle.image.specs.Refusal.{alone_refusal, WantsMemory}
use Rattle.commands.specs.declared.show.Shown.{Shown}
use Rattle.commands.specs.declared.show.Shown.TheVariants as shown
use Rattle.program_parts.specs.Refusal.{refusal_text, memory_text}

-- exactly one of these texts was appended: the image, its refusal, or the line for refused memory
abbrev pub Shows : List ℕ → ℕ → Option (List ℕ) → Option (List ℕ) → Shown → Type 0
Shows program base before after shown.Image = (alone_refusal program base ≡ None) × Appends before after (image_text (image_of (alone program base)))
Shows program base before after shown.Refused = (refusal : BindRefusal)
    × (alone_refusal program base ≡ Some refusal) × Appends before after (refusal_text refusal)
Shows program base before after shown.NoMemory = WantsMemory program × Appends before after memory_text
