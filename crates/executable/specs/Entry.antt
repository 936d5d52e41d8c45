-- The address at which a bound program begins to run (gABI chapter 4, e_entry).
use Rattle.std.specs.Prelude.{ℕ, ◌+◌, List, [], ◌∷◌, take, Option, Some, None, Bool, not, ◌==◌, ◌&&◌, nat_le, bit_and, if◌then◌else◌}
use Rattle.std.specs.List.{list_any}
use Rattle.image.specs.Constant.{MEMORY_LIMIT, PF_X}
use Rattle.image.specs.Heading.{holds}
use Rattle.image.specs.Image.{ImageSegment, MemoryImage, heading}
use Rattle.image.specs.declared.object.ImageObject.{ImageObject}

-- segment `s` has the address, and may be executed
abbrev pub is_code : ℕ → ImageSegment → Bool
is_code address s = (bit_and s.permissions PF_X == PF_X) && holds address (heading s)

-- the entry of a program, if it is in the program's own code; the program's own segments are the
-- first `program.segment_count` segments
abbrev pub own_entry : ImageObject → List ImageSegment → Option ℕ
own_entry program segments =
    let address = program.base + program.addresses.entry in
    if not (program.addresses.entry == 0) && nat_le address MEMORY_LIMIT && list_any (is_code address) (take program.segment_count segments) then Some address else None

-- the entry of the program, which is the first object
abbrev pub entry_among : List ImageObject → List ImageSegment → Option ℕ
entry_among [] segments = None
entry_among (program ∷ libraries) segments = own_entry program segments

-- the entry of a bound program
abbrev pub entry_of : MemoryImage → Option ℕ
entry_of image = entry_among image.objects image.segments
