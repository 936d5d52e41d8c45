-- Names that are hashed together, eight at a time.
use Rattle.std.specs.Prelude.{ℕ, List, true, ◌≡◌, ◌≢◌, ◌<◌, ◌≤◌, ◌-◌, length, take, drop, slice_index, fold}
use Rattle.elf_dynamic.specs.Strings.{name_of, string_table}
use Rattle.elf_dynamic.specs.HashTable.{buckets, chains}
use Rattle.hash_check.specs.Hash.{hash_step, elf_hash}
use Rattle.hash_check.specs.Export.{is_exported}
use Rattle.hash_check.specs.Walk.{Meets}
use Rattle.hash_check.specs.HashTable.{bucket_of}
use Rattle.hash_check.specs.declared.lanes.Lanes.{Lanes}

-- the bytes of a table from offset `place` up to offset `end`
abbrev pub between : List ℕ → ℕ → ℕ → List ℕ
between table place end = take (end - place) (drop place table)

-- the lane is free, or has an exported symbol, the hash of the first bytes of the symbol's name, and the place and the
-- end of the name's other bytes
pub record IsLane (file : List ℕ) (symbol hash place end : ℕ) : Type 0 where
  pub order : place ≤ end
  pub within : end ≤ length (string_table file)
  pub exported : symbol ≢ 0 → is_exported file symbol ≡ true
  pub rest : symbol ≢ 0 → fold hash_step hash (between (string_table file) place end) ≡ elf_hash (name_of file symbol)

pub record AreLanes (file : List ℕ) (l : Lanes) : Type 0 where
  pub each : (k : ℕ) → k < 8 → IsLane file (slice_index l.symbols k) (slice_index l.hashes k) (slice_index l.places k) (slice_index l.ends k)

-- in each of the eight lanes, the end isn't before the place
pub record AreOrdered (places ends : List ℕ) : Type 0 where
  pub order : (k : ℕ) → k < 8 → slice_index places k ≤ slice_index ends k

-- symbol `i` is on the walk from the bucket of its name's hash
abbrev pub IsMet : List ℕ → ℕ → Type 0
IsMet file i = Meets (chains file) (bucket_of (buckets file) (elf_hash (name_of file i))) i

-- the symbol of each lane is on the walk from the bucket of its name's hash
pub record AllMet (file symbols : List ℕ) : Type 0 where
  pub met : (k : ℕ) → k < 8 → slice_index symbols k ≢ 0 → IsMet file (slice_index symbols k)
