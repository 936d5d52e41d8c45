-- The bytes that loading puts into memory (gABI chapter 5, segment contents).
use Rattle.std.specs.Prelude.{ℕ, ◌+◌, ◌-◌, nat_lt, if◌then◌else◌, List, length, map, slice_index, Option}
use Rattle.std.specs.List.{find, flat_map}
use Rattle.std.specs.Option.{option_map}
use Rattle.elf_file.specs.Segment.{loads, contents}
use Rattle.elf_file.specs.declared.segment.ProgramHeader.{ProgramHeader}
use Rattle.image.specs.Heading.{Heading, holds}
use Rattle.image.specs.Permissions.{permission_bits}
use Rattle.image.specs.Placement.{Placed}

-- a PT_LOAD in memory: its heading, and its first bytes, which come from the file
pub record Loaded : Type 0 where
  pub heading : Heading
  pub contents : List ℕ

-- the heading of a PT_LOAD at a base
abbrev pub heading_at : ℕ → ProgramHeader → Heading
heading_at base h = record { address = base + h.address; permissions = permission_bits h.flags; size = h.memory_size }

-- the PT_LOAD of a program header, in memory at a base
abbrev pub loaded_at : ℕ → List ℕ → ProgramHeader → Loaded
loaded_at base file h = record { heading = heading_at base h; contents = contents file h }

-- the PT_LOADs of an object, in memory at the object's base
abbrev pub loaded_of : Placed → List Loaded
loaded_of object = map (loaded_at object.base object.file) (loads object.file)

-- the PT_LOADs of all objects, in load order
abbrev pub all_loaded : List Placed → List Loaded
all_loaded objects = flat_map loaded_of objects

-- byte `i` of a PT_LOAD: the file's byte, or 0 if `i` is past the file's bytes
abbrev pub loaded_byte : Loaded → ℕ → ℕ
loaded_byte s i = if nat_lt i (length s.contents) then slice_index s.contents i else 0

-- the byte that loading puts at an address, if a PT_LOAD has this address
abbrev pub loaded_byte_at : List Loaded → ℕ → Option ℕ
loaded_byte_at segments address =
    option_map (λ s. loaded_byte s (address - s.heading.address)) (find (λ s. holds address s.heading) segments)
