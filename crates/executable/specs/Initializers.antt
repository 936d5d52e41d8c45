-- The functions that a loader calls before a program starts and after it ends (gABI chapter 5,
-- initialization and termination functions).
use Rattle.std.specs.Prelude.{ℕ, ◌+◌, ◌-◌, List, [], ◌∷◌, take, drop, Option, Some, None, Bool, false, ◌&&◌, ◌||◌, nat_le, if◌then◌else◌}
use Rattle.std.specs.List.{list_any, find}
use Rattle.std.specs.Option.{option_map_or}
use Rattle.elf_file.specs.Dynamic.{entries_in, has_tag}
use Rattle.image.specs.Constant.{MEMORY_LIMIT}
use Rattle.image.specs.Heading.{holds}
use Rattle.image.specs.Image.{ImageSegment, MemoryImage, heading}
use Rattle.image.specs.declared.object.ImageObject.{ImageObject}
use Rattle.executable.specs.Constant.{DT_INIT, DT_INIT_ARRAY, DT_INIT_ARRAYSZ, DT_FINI, DT_FINI_ARRAY, DT_FINI_ARRAYSZ}
use Rattle.executable.specs.Constant.{DT_PREINIT_ARRAY, DT_PREINIT_ARRAYSZ, ARRAY_ENTRY_SIZE}

-- a dynamic section has an entry with the tag `tag` and a value of at least `least`
unfoldable pub has_from : List ℕ → ℕ → ℕ → Bool
has_from section tag least = list_any (λ e. has_tag tag e && nat_le least e.value) (entries_in section)

-- a dynamic section has an array of functions with at least one entry; `array` and `size` are the tags
-- of the array and of its size
abbrev pub has_array : List ℕ → ℕ → ℕ → Bool
has_array section array size = has_from section array 0 && has_from section size ARRAY_ENTRY_SIZE

-- a dynamic section has a function, by the tag `function`, or an array of functions with at least
-- one entry, by the tags `array` and `size`
abbrev pub has_functions : ℕ → ℕ → ℕ → List ℕ → Bool
has_functions function array size section = has_from section function 0 || has_array section array size

-- the memory from an address to the end of the segment that has this address
abbrev pub memory_from : List ImageSegment → ℕ → List ℕ
memory_from segments address = option_map_or (λ s. drop (address - s.address) s.bytes) (find (λ s. holds address (heading s)) segments) []

-- the memory of an object's own segments from address `base` + `d` to the end of the segment; empty
-- if there is no `d`, or if no segment has this address
abbrev pub section_memory : ℕ → List ImageSegment → Option ℕ → List ℕ
section_memory base own None = []
section_memory base own (Some d) = if nat_le (base + d) MEMORY_LIMIT then memory_from own (base + d) else []

-- the memory from an object's dynamic section to the end of its segment; empty if the object has no such
-- section in memory
abbrev pub dynamic_memory : ImageObject → List ImageSegment → List ℕ
dynamic_memory object own = section_memory object.base own object.addresses.dynamic

-- the name of the first of these libraries whose dynamic section passes the test `has`, or none;
-- `segments` are those of the libraries, one library after the other
abbrev pub first_among : (List ℕ → Bool) → List ImageObject → List ImageSegment → Option (List ℕ)
first_among has [] segments = None
first_among has (o ∷ rest) segments =
    if has (dynamic_memory o (take o.segment_count segments)) then Some o.name
    else first_among has rest (drop o.segment_count segments)

-- the name of the first library whose dynamic section passes the test `has`, or none; the first
-- object is the program, and all others are libraries
abbrev pub first_behind : (List ℕ → Bool) → List ImageObject → List ImageSegment → Option (List ℕ)
first_behind has [] segments = None
first_behind has (program ∷ libraries) segments = first_among has libraries (drop program.segment_count segments)

-- the name of the first library of an image whose dynamic section passes the test `has`
abbrev pub first_library : (List ℕ → Bool) → MemoryImage → Option (List ℕ)
first_library has image = first_behind has image.objects image.segments

-- the name of the first library of an image that has initializers
abbrev pub first_initialized : MemoryImage → Option (List ℕ)
first_initialized image = first_library (has_functions DT_INIT DT_INIT_ARRAY DT_INIT_ARRAYSZ) image

-- the name of the first library of an image that has finalizers
abbrev pub first_finalized : MemoryImage → Option (List ℕ)
first_finalized image = first_library (has_functions DT_FINI DT_FINI_ARRAY DT_FINI_ARRAYSZ) image

-- the program, which is the first object, has pre-initializers
abbrev pub preinitialized_among : List ImageObject → List ImageSegment → Bool
preinitialized_among [] segments = false
preinitialized_among (program ∷ libraries) segments =
    has_array (dynamic_memory program (take program.segment_count segments)) DT_PREINIT_ARRAY DT_PREINIT_ARRAYSZ

-- the program of an image has pre-initializers
abbrev pub is_preinitialized : MemoryImage → Bool
is_preinitialized image = preinitialized_among image.objects image.segments
