-- The refusals of a file. The object's own tests come first, and the tests of admission follow
-- (own: the order of all tests).
use Rattle.std.specs.Prelude.{ℕ, List, [], ◌∷◌, Option, Some, None, ◌≡◌}
use Rattle.std.specs.Option.{option_map}
use Rattle.elf_file.specs.FirstOf.{◌when◌, first_of}
use Rattle.elf_dynamic.specs.Refusal.{first_refusal}
use Rattle.hash_check.specs.Definition.{has_duplicate_definition}
use Rattle.hash_check.specs.Admission.{has_bad_hash_table, NeedsMemory}
use Rattle.hash_check.specs.declared.file_refusal.FileRefusal.{FileRefusal}
use Rattle.hash_check.specs.declared.file_refusal.FileRefusal.TheVariants.{Object, DuplicateDefinition, BadHashTable}
use Rattle.hash_check.specs.declared.file_refusal.ReadRefusal.{ReadRefusal}
use Rattle.hash_check.specs.declared.file_refusal.ReadRefusal.TheVariants.{File, OutOfMemory}

-- the tests of a file, in the order in which they are made: E1 to E27 and E30 to E32, then E28 and E29
abbrev pub file_tests : List ℕ → List (Option FileRefusal)
file_tests file =
    option_map Object (first_refusal file)
    ∷ (DuplicateDefinition when has_duplicate_definition file)
    ∷ (BadHashTable when has_bad_hash_table file)
    ∷ []

-- the refusal of a file by the first test that applies, or none if the file is accepted
unfoldable pub first_file_refusal : List ℕ → Option FileRefusal
first_file_refusal file = first_of (file_tests file)

-- reading a file may need memory: all tests of the object accept the file, and admission may need
-- memory
abbrev pub ReadNeedsMemory : List ℕ → Type 0
ReadNeedsMemory file = (first_refusal file ≡ None) × NeedsMemory file

-- reading may return this refusal: OutOfMemory if reading the file may need memory, or the refusal
-- of the first test that applies
abbrev pub IsReadRefusal : List ℕ → ReadRefusal → Type 0
IsReadRefusal file (File refusal) = first_file_refusal file ≡ Some refusal
IsReadRefusal file OutOfMemory = ReadNeedsMemory file
