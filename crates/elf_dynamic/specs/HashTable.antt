-- The SYSV hash table (gABI chapter 5, hash table).
use Rattle.std.specs.Prelude.{ℕ, ◌+◌, ◌*◌, List, [], map, Option, unwrap_or}
use Rattle.std.specs.List.{range_with_len}
use Rattle.elf_file.specs.Number.{number_at}
use Rattle.elf_file.specs.Constant.{DT_HASH}
use Rattle.elf_file.specs.Dynamic.{tag_value}
use Rattle.elf_file.specs.Address.{bytes_at}
use Rattle.elf_dynamic.specs.Constant.{WORD_SIZE}

-- word number `i` of a table
unfoldable pub word : List ℕ → ℕ → ℕ
word table i = number_at 4 table (WORD_SIZE * i)

-- the bytes of the first two words, if they can be read
unfoldable pub hash_head_bytes : List ℕ → Option (List ℕ)
hash_head_bytes file = bytes_at file (tag_value file DT_HASH) (WORD_SIZE * 2)

-- the first two words; no bytes if the words can't be read (then the file is refused with BadRange)
abbrev pub hash_head : List ℕ → List ℕ
hash_head file = unwrap_or (hash_head_bytes file) []

-- nbucket: the number of buckets
unfoldable pub bucket_count : List ℕ → ℕ
bucket_count file = word (hash_head file) 0

-- nchain: the number of chain words, which is also the number of symbols
unfoldable pub chain_count : List ℕ → ℕ
chain_count file = word (hash_head file) 1

-- the bytes of the whole table, if they can be read
unfoldable pub hash_bytes : List ℕ → Option (List ℕ)
hash_bytes file = bytes_at file (tag_value file DT_HASH) (WORD_SIZE * (2 + (bucket_count file + chain_count file)))

-- the whole table; no bytes if the table can't be read (then the file is refused with BadRange)
unfoldable pub hash_table : List ℕ → List ℕ
hash_table file = unwrap_or (hash_bytes file) []

-- the words of the buckets; each word is the index of the first symbol of the bucket's chain
unfoldable pub buckets : List ℕ → List ℕ
buckets file = map (word (hash_table file)) (range_with_len 2 (bucket_count file))

-- the chain words; each word is the index of the next symbol of the chain, or 0 at the end of the
-- chain
unfoldable pub chains : List ℕ → List ℕ
chains file = map (word (hash_table file)) (range_with_len (2 + bucket_count file) (chain_count file))
