-- How the index of the PT_LOADs describes the program headers.
use Rattle.std.specs.Prelude.{ℕ, ◌+◌, ◌-◌, ◌*◌, ◌<◌, ◌≤◌, ◌≡◌, Bool, true, false}
use Rattle.std.specs.Prelude.{◌&&◌, nat_lt, List, map, filter, length, slice_index, slice_set}
use Rattle.std.specs.List.{range_with_len}
use Rattle.elf_file.specs.Header.{header_count}
use Rattle.elf_file.specs.Segment.{program_header, is_load, has_bad_load, is_too_large, has_bad_order}
use Rattle.elf_file.specs.declared.segment.ProgramHeader.{ProgramHeader}
use Rattle.elf_file.specs.declared.load_index.LoadIndex.{LoadIndex}
use Rattle.elf_file.specs.declared.load_index.TheConstants.{BLOCK, BLOCKS}

-- the number of PT_LOADs among the first `k` program headers
unfoldable pub loads_before : List ℕ → ℕ → ℕ
loads_before file k = length (filter is_load (map (program_header file) (range_with_len 0 k)))

-- a block of the index spans program header number `j`
pub record InBlock (index : LoadIndex) (j : ℕ) : Type 0 where
  pub block : ℕ
  pub stands : block < index.blocks
  pub from : slice_index index.first block ≤ j
  pub to : j < slice_index index.first block + BLOCK

-- `index` is the index of the first `n` program headers: its blocks begin with a PT_LOAD, contain
-- all PT_LOADs, and don't overlap
pub record Indexes (file : List ℕ) (n : ℕ) (index : LoadIndex) : Type 0 where
  pub first_size : length index.first ≡ BLOCKS
  pub fits : index.blocks ≤ BLOCKS
  pub load : (b : ℕ) → b < index.blocks → is_load (program_header file (slice_index index.first b)) ≡ true
  pub within : (b : ℕ) → b < index.blocks → slice_index index.first b < n
  pub room : (b : ℕ) → b < index.blocks → BLOCK * b ≤ slice_index index.first b
  pub apart : (a b : ℕ) → a < b → b < index.blocks → slice_index index.first a + BLOCK ≤ slice_index index.first b
  pub all : (j : ℕ) → j < n → is_load (program_header file j) ≡ true → InBlock index j

-- the file isn't too large, no PT_LOAD has a wrong file size, file end or alignment, and each one begins at or above
-- the end of the one before it
pub record HasSegments (file : List ℕ) : Type 0 where
  pub loads_fit : has_bad_load file ≡ false
  pub low : is_too_large file ≡ false
  pub in_order : has_bad_order file ≡ false

-- each PT_LOAD begins at or above the end of the one before it, and `index` is the index of the PT_LOADs
pub record IsIndexed (file : List ℕ) (index : LoadIndex) : Type 0 where
  pub in_order : has_bad_order file ≡ false
  pub indexes : Indexes file (header_count file) index

-- the PT_LOADs from program header number `k`
unfoldable pub loads_from : List ℕ → ℕ → List ProgramHeader
loads_from file k = filter is_load (map (program_header file) (range_with_len k (header_count file - k)))

-- the last block spans program header number `i`; only for a header that isn't before this block
abbrev pub is_spanned : LoadIndex → ℕ → Bool
is_spanned index i = nat_lt 0 index.blocks && nat_lt i (slice_index index.first (index.blocks - 1) + BLOCK)

-- all PT_LOADs from program header number `k` begin above the address
abbrev pub AllAbove : List ℕ → ℕ → ℕ → Type 0
AllAbove file address k = (j : ℕ) → k ≤ j → j < header_count file → is_load (program_header file j) ≡ true
    → address < (program_header file j).address

-- all PT_LOADs before program header number `k` end at or below the address
abbrev pub AllBelow : List ℕ → ℕ → ℕ → Type 0
AllBelow file address k = (j : ℕ) → j < k → is_load (program_header file j) ≡ true
    → (program_header file j).address + (program_header file j).memory_size ≤ address

-- only the block that begins at program header number `k` can have a PT_LOAD that contains the
-- address
abbrev pub IsBlockAt : List ℕ → ℕ → ℕ → Type 0
IsBlockAt file address k = (k < header_count file) × AllBelow file address k × AllAbove file address (k + BLOCK)

-- program header number `k` is a PT_LOAD that begins at or below the address
abbrev pub BeginsBy : List ℕ → ℕ → ℕ → Type 0
BeginsBy file address k = (k < header_count file) × (is_load (program_header file k) ≡ true) × ((program_header file k).address ≤ address)

-- the index with one more block, which begins at program header number `i`
abbrev pub with_block : LoadIndex → ℕ → LoadIndex
with_block index i =
    record index {
      blocks = index.blocks + 1;
      first = slice_set index.first index.blocks i;
    }
