-- The effect of loading a file (gABI chapter 5, program loading), stated with the definitions for
-- reading a file.
use Rattle.std.specs.Prelude.{ℕ, ◌≡◌, ◌+◌, ◌-◌, ◌<◌, ◌≤◌, ◌%◌, ◌⊎◌, false, List, [], ◌∷◌, map, take, slice_index, Option, Some}
use Rattle.elf_file.specs.Number.{number_at}
use Rattle.elf_file.specs.Header.{HasHeaders, has_bad_magic, has_bad_class, has_bad_data, has_bad_version, has_bad_os_abi}
use Rattle.elf_file.specs.Header.{has_bad_machine, has_bad_header_size, has_bad_program_headers}
use Rattle.elf_file.specs.Segment.{program_headers, loads}
use Rattle.elf_file.specs.declared.segment.ProgramHeader.{ProgramHeader}
use Rattle.image.specs.Constant.{PAGE, PF_R}
use Rattle.image.specs.Image.{ImageSegment, segments_byte}
use Rattle.image.specs.Loading.{Loaded, loaded_at, loaded_byte_at}
use Rattle.executable.specs.Constant.{ET_EXEC}
use Rattle.executable.specs.File.{is_below, put_in_order, table_of}
use Rattle.executable.specs.Piece.{page_of, end_of, pieces_of}
use Rattle.executable.specs.Place.{header_count_of, headers_size, place_of}

-- the PT_LOADs of a file in memory, at their addresses in the file
abbrev pub loaded_by : List ℕ → List Loaded
loaded_by file = map (loaded_at 0 file) (loads file)

-- the byte that is at an address after a file was loaded
abbrev pub file_byte : List ℕ → ℕ → Option ℕ
file_byte file address = loaded_byte_at (loaded_by file) address

-- the file is a complete ELF-64 executable for x86-64: the tests E1 to E6 and E8 to E10 accept it
pub record IsExecutable (file : List ℕ) : Type 0 where
  pub whole : HasHeaders file
  pub magic : has_bad_magic file ≡ false
  pub bits : has_bad_class file ≡ false
  pub endian : has_bad_data file ≡ false
  pub version : has_bad_version file ≡ false
  pub os_abi : has_bad_os_abi file ≡ false
  pub kind : number_at 2 file 16 ≡ ET_EXEC
  pub machine : has_bad_machine file ≡ false
  pub header_size : has_bad_header_size file ≡ false
  pub headers : has_bad_program_headers file ≡ false

-- a file's headers in memory at address `place`, with the permission to read, but not to write or
-- execute
abbrev pub headers_at : ℕ → List Loaded → List ℕ → Loaded
headers_at place pieces file =
    let size = headers_size (header_count_of pieces) in
    record { heading = record { address = place; permissions = PF_R; size = size }; contents = take size file }

-- the program headers of the file are those of the pieces of these segments, and the file loads the
-- pieces and its own headers
pub record IsFileOf (segments : List ImageSegment) (file : List ℕ) : Type 0 where
  pub place : ℕ
  pub free : place_of (pieces_of segments) ≡ Some place
  pub table : program_headers file ≡ table_of place (pieces_of segments)
  pub loaded : loaded_by file ≡ put_in_order (is_below place (pieces_of segments)) (headers_at place (pieces_of segments) file) (pieces_of segments)

-- byte `b` at address `a` is one of the file's own headers, which are mapped at the address that `place_of` finds
pub record IsOfHeaders (segments : List ImageSegment) (file : List ℕ) (a b : ℕ) : Type 0 where
  pub place : ℕ
  pub free : place_of (pieces_of segments) ≡ Some place
  pub from : place ≤ a
  pub to : a < place + headers_size (header_count_of (pieces_of segments))
  pub is : slice_index file (a - place) ≡ b

-- some segment has a byte at an address
abbrev pub HasAny : List ImageSegment → ℕ → Type 0
HasAny segments a = (b : ℕ) × (segments_byte segments a ≡ Some b)

-- address `a` lies between two addresses that have bytes in segments; these two addresses are in
-- the same page or in adjacent pages
pub record IsBetween (segments : List ImageSegment) (a : ℕ) : Type 0 where
  pub below : ℕ
  pub above : ℕ
  pub before : below < a
  pub behind : a < above
  pub has_below : HasAny segments below
  pub has_above : HasAny segments above
  pub page : page_of above ≤ page_of below + PAGE

-- byte `b` at address `a` belongs to the segments or to the headers, or is a 0 between two bytes of
-- segments in the same page or in adjacent pages
abbrev pub IsFrom : List ImageSegment → List ℕ → ℕ → ℕ → Type 0
IsFrom segments file a b = (segments_byte segments a ≡ Some b) ⊎ (IsOfHeaders segments file a b ⊎ ((b ≡ 0) × IsBetween segments a))

-- no two segments share a page: the first segment begins in a page at or above `from`, and each later segment in a page
-- at or above the end of the segment before it
abbrev pub IsApart : ℕ → List Loaded → Type 0
IsApart from [] = Unit {0}
IsApart from (s ∷ rest) = (from ≤ page_of s.heading.address) × IsApart (end_of s) rest

-- the offset and the address of a PT_LOAD are equal modulo the size of a page
abbrev pub IsCongruent : ProgramHeader → Type 0
IsCongruent h = h.offset % PAGE ≡ h.address % PAGE
