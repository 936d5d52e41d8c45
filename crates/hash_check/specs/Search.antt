-- The number of symbols that a search by the hash table compares (gABI chapter 5, "Hash Table").
use Rattle.std.specs.Prelude.{ℕ, List, [], ◌∷◌, Bool, ◌+◌, if◌then◌else◌}
use Rattle.elf_dynamic.specs.HashTable.{buckets, chains}
use Rattle.hash_check.specs.Definition.{is_exported_as}
use Rattle.hash_check.specs.HashTable.{bucket_of}
use Rattle.hash_check.specs.Admission.{walked}

-- the number of elements up to the first one that passes the test, including it, or of all elements
-- if none passes
abbrev pub up_to : (ℕ → Bool) → List ℕ → ℕ
up_to test [] = 0
up_to test (x ∷ xs) = if test x then 1 else up_to test xs + 1

-- the number of symbols that a search for `name` compares: those on the walk from the bucket of
-- `hash`, up to the symbol that is exported under the name, including it
abbrev pub compared : List ℕ → List ℕ → ℕ → ℕ
compared file name hash = up_to (is_exported_as file name) (walked (chains file) (bucket_of (buckets file) hash))
