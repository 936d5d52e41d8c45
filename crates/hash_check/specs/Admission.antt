-- The tests of admission, which follow an object's own tests (own; of gABI chapter 5, "Hash
-- Table"). If a walk ends, it has fewer steps than there are chain words. For this reason the tests
-- decide the conditions of HashTable.antt.
use Rattle.std.specs.Prelude.{ℕ, List, [], ◌∷◌, Bool, true, Option, Some, ◌≡◌, ◌≤◌}
use Rattle.std.specs.Prelude.{◌==◌, ◌&&◌, ◌⊎◌, not, nat_lt, length, map, take_while}
use Rattle.std.specs.List.{list_any, list_all, range_with_len}
use Rattle.elf_dynamic.specs.Strings.{name_of}
use Rattle.elf_dynamic.specs.HashTable.{buckets, chains}
use Rattle.elf_file.specs.FirstOf.{◌when◌, first_of}
use Rattle.hash_check.specs.Hash.{elf_hash}
use Rattle.hash_check.specs.Export.{exported_symbols}
use Rattle.hash_check.specs.Definition.{has_duplicate_definition, HasUniqueNames, HasSharedName}
use Rattle.hash_check.specs.Walk.{walk}
use Rattle.hash_check.specs.HashTable.{bucket_of, HasGoodTable}
use Rattle.hash_check.specs.declared.refusal.AdmitRefusal.{AdmitRefusal}
use Rattle.hash_check.specs.declared.refusal.AdmitRefusal.TheVariants.{DuplicateDefinition, BadHashTable, OutOfMemory}

-- the indices on the walk from `from` before it reaches 0; at most as many as there are chain words
unfoldable pub walked : List ℕ → ℕ → List ℕ
walked words from = take_while (λ i. not (i == 0)) (map (walk words from) (range_with_len 0 (length words)))

-- every word is the index of one of `n` symbols
abbrev pub are_indices : ℕ → List ℕ → Bool
are_indices n words = list_all (λ w. nat_lt w n) words

-- the walk reaches 0 in fewer steps than there are chain words
unfoldable pub ends_soon : List ℕ → ℕ → Bool
ends_soon words from = list_any (λ k. walk words from k == 0) (range_with_len 0 (length words))

-- there is a bucket, and every word of the table is the index of a symbol
unfoldable pub has_good_words : List ℕ → Bool
has_good_words file = not (length (buckets file) == 0)
    && (are_indices (length (chains file)) (buckets file) && are_indices (length (chains file)) (chains file))

-- the walk from every bucket ends
unfoldable pub has_ending_walks : List ℕ → Bool
has_ending_walks file = list_all (ends_soon (chains file)) (buckets file)

-- symbol number `i` is on the walk from the bucket of its own name's hash
unfoldable pub is_met : List ℕ → ℕ → Bool
is_met file i = list_any (λ j. j == i) (walked (chains file) (bucket_of (buckets file) (elf_hash (name_of file i))))

-- every exported symbol is on the walk from the bucket of its own name's hash
unfoldable pub meets_exports : List ℕ → Bool
meets_exports file = list_all (is_met file) (exported_symbols file)

-- E29, as a test: there is no bucket, a word isn't an index, a walk doesn't end, or an exported
-- symbol isn't on the walk from the bucket of its name's hash
unfoldable pub has_bad_hash_table : List ℕ → Bool
has_bad_hash_table file = not (has_good_words file && (has_ending_walks file && meets_exports file))

-- the refusal of an object by the first test of admission that applies, or none if the object is admitted (own)
unfoldable pub admission_refusal : List ℕ → Option AdmitRefusal
admission_refusal file =
    first_of ((DuplicateDefinition when has_duplicate_definition file) ∷ (BadHashTable when has_bad_hash_table file) ∷ [])

-- admission may need memory: at least two symbols are exported, so that their names have to be
-- compared, or every word is an index, so that the walks have to be followed (own)
abbrev pub NeedsMemory : List ℕ → Type 0
NeedsMemory file = (2 ≤ length (exported_symbols file)) ⊎ (has_good_words file ≡ true)

-- admission may return this refusal: OutOfMemory if memory may be needed, or another refusal if its
-- test is the first that applies (own)
abbrev pub IsRefusedBy : List ℕ → AdmitRefusal → Type 0
IsRefusedBy file OutOfMemory = NeedsMemory file
IsRefusedBy file refusal = admission_refusal file ≡ Some refusal

-- the refusal is true: two exported symbols share a name; or no two do, and the table can't be
-- trusted; or memory may be needed
abbrev pub Says : List ℕ → AdmitRefusal → Type 0
Says file DuplicateDefinition = HasSharedName file
Says file BadHashTable = HasUniqueNames file × (¬ HasGoodTable file)
Says file OutOfMemory = NeedsMemory file
