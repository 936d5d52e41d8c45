-- Facts about a program that passes its own tests.
use Rattle.std.proofs.Common.{◌≡◌, ℕ, List, None}
use Rattle.hash_check.specs.FileRefusal.{ReadNeedsMemory}
use Rattle.hash_check.proofs.Reading.{taken_with_memory}
use Rattle.image.specs.Refusal.{program_refusal}
use Rattle.image.proofs.Answering.{program-taken}

-- a program that passes its own tests was admitted, and admitting it needs memory
pub memory : (file : List ℕ) (base : ℕ) → program_refusal file base ≡ None → ReadNeedsMemory file
memory file base h = taken_with_memory file (program-taken file base h)
