-- The parts of a PT_LOAD, and the file's bytes at an address (gABI chapter 5, segment contents).
use Rattle.std.specs.Prelude.{ℕ, ◌+◌, ◌-◌, List, [], take, drop, Option, Some, Bool, ◌==◌}
use Rattle.std.specs.Prelude.{◌&&◌, nat_le, if◌then◌else◌, ◌≡◌, slice_get}
use Rattle.std.specs.Option.{option_map}
use Rattle.std.specs.List.{find, list_any}
use Rattle.elf_file.specs.Segment.{loads}
use Rattle.elf_file.specs.declared.segment.ProgramHeader.{ProgramHeader}

-- the file part of a PT_LOAD, which is p_filesz bytes from p_vaddr, has the `size` bytes at `address`
abbrev pub is_in_file_part : ℕ → ℕ → ProgramHeader → Bool
is_in_file_part address size h = nat_le h.address address && nat_le (address + size) (h.address + h.file_size)

-- the memory part of a PT_LOAD, which is p_memsz bytes from p_vaddr, has the `size` bytes at `address`
abbrev pub is_in_memory_part : ℕ → ℕ → ProgramHeader → Bool
is_in_memory_part address size h = nat_le h.address address && nat_le (address + size) (h.address + h.memory_size)

-- the memory part of one PT_LOAD has the `size` bytes at `address`
unfoldable pub is_in_memory : List ℕ → ℕ → ℕ → Bool
is_in_memory file address size = list_any (is_in_memory_part address size) (loads file)

-- the `size` bytes of the file from the byte that a PT_LOAD loads at `address`
abbrev pub bytes_of : List ℕ → ℕ → ℕ → ProgramHeader → List ℕ
bytes_of file address size h = take size (drop (h.offset + (address - h.address)) file)

-- the first PT_LOAD whose file part has the `size` bytes at `address`
unfoldable pub find_file_part : List ℕ → ℕ → ℕ → Option ProgramHeader
find_file_part file address size = find (is_in_file_part address size) (loads file)

-- the `size` bytes at `address`, if the file part of one PT_LOAD has them; if `size` is 0, no
-- bytes, at any address
unfoldable pub bytes_at : List ℕ → ℕ → ℕ → Option (List ℕ)
bytes_at file address size = if size == 0 then Some [] else option_map (bytes_of file address size) (find_file_part file address size)

-- the program header is a PT_LOAD of the file
abbrev pub IsLoadOf : List ℕ → ProgramHeader → Type 0
IsLoadOf file h = (k : ℕ) × (slice_get (loads file) k ≡ Some h)
