-- A good hash table (gABI chapter 5, "Hash Table").
use Rattle.std.specs.Prelude.{ℕ, List, true, ◌≡◌, ◌≤◌, ◌<◌, ◌%◌, length, slice_index}
use Rattle.std.specs.List.{All}
use Rattle.elf_dynamic.specs.Strings.{name_of}
use Rattle.elf_dynamic.specs.HashTable.{buckets, chains}
use Rattle.hash_check.specs.Hash.{elf_hash}
use Rattle.hash_check.specs.Export.{is_exported}
use Rattle.hash_check.specs.Walk.{Ends, Meets}

-- every word is the index of one of `n` symbols
abbrev pub AreIndices : ℕ → List ℕ → Type 0
AreIndices n words = All (λ w. w < n) words

-- the index at which the walk for `hash` begins; `words` has the words of the buckets
abbrev pub bucket_of : List ℕ → ℕ → ℕ
bucket_of words hash = slice_index words (hash % length words)

-- there is a bucket
abbrev pub HasBucket : List ℕ → Type 0
HasBucket file = 1 ≤ length (buckets file)

-- every bucket and every chain word is the index of a symbol
pub record HasIndexWords (file : List ℕ) : Type 0 where
  pub bucket_words : AreIndices (length (chains file)) (buckets file)
  pub chain_words : AreIndices (length (chains file)) (chains file)

-- the walk from every bucket reaches 0 after some number of chain steps
abbrev pub HasEndingWalks : List ℕ → Type 0
HasEndingWalks file = All (Ends (chains file)) (buckets file)

-- every exported symbol is on the walk from the bucket of its own name's hash, before 0
abbrev pub MeetsExports : List ℕ → Type 0
MeetsExports file = (i : ℕ) → is_exported file i ≡ true → Meets (chains file) (bucket_of (buckets file) (elf_hash (name_of file i))) i

-- the table can be trusted: it has a bucket, its words are indices, its walks end, and they meet every exported symbol
pub record HasGoodTable (file : List ℕ) : Type 0 where
  pub some_bucket : HasBucket file
  pub words : HasIndexWords file
  pub ends : HasEndingWalks file
  pub met : MeetsExports file
