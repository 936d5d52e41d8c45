-- Refusals of a file as a library (own).
use Rattle.std.specs.Prelude.{ℕ, List, ◌≡◌, Some}
use Rattle.hash_check.specs.FileRefusal.{ReadNeedsMemory}
use Rattle.requests.specs.Library.{library_refusal}
use Rattle.requests.specs.declared.refusal.Refusal.{Refusal}
use Rattle.requests.specs.declared.refusal.Refusal.TheVariants.{Object, OutOfMemory}

-- the reason why a file isn't read as a library: the first test that refuses it, or refused memory
-- for admission
abbrev pub IsLibraryRefusal : List ℕ → Refusal → Type 0
IsLibraryRefusal file (Object refusal) = library_refusal file ≡ Some refusal
IsLibraryRefusal file OutOfMemory = ReadNeedsMemory file
IsLibraryRefusal file refusal = ⊥
