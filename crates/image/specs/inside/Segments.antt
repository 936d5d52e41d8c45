-- The places of segments, and how loading and relocating change their bytes. To understand the
-- contracts of public calls, you don't need these definitions.
use Rattle.std.specs.Prelude.{ℕ, ◌≡◌, ◌+◌, ◌-◌, ◌^◌, ◌<◌, ◌≤◌, Bool, ◌&&◌, true, nat_le, if◌then◌else◌}
use Rattle.std.specs.Prelude.{List, [], ◌∷◌, ◌++◌, length, map, take, drop, replicate, sum_by, Option, Some, None}
use Rattle.std.specs.Int.{byte_at}
use Rattle.std.specs.List.{All, list_any}
use Rattle.byteorder.specs.Endian.{little_bytes}
use Rattle.scope.specs.Objects.{Named}
use Rattle.image.specs.Bound.{AllAccepted}
use Rattle.image.specs.Constant.{MEMORY_LIMIT}
use Rattle.image.specs.Heading.{Heading, within}
use Rattle.image.specs.Image.{ImageSegment, heading}
use Rattle.image.specs.Loading.{Loaded}
use Rattle.image.specs.Placement.{Placed, Stacked, placed_at}
use Rattle.image.specs.Relocating.{Write}
use Rattle.image.specs.declared.object.ImageObject.{ImageObject}

-- `size` bytes: those of `front`, and then zeros
abbrev pub padded : List ℕ → ℕ → List ℕ
padded front size = front ++ replicate (size - length front) 0

-- a PT_LOAD in memory before any relocation: the file's bytes, followed by zeros
abbrev pub fresh : Loaded → ImageSegment
fresh s =
    record {
      address = s.heading.address;
      permissions = s.heading.permissions;
      bytes = padded s.contents s.heading.size;
    }

-- the first segment begins at or above `from`, and each later segment begins at or above the end of the segment before
-- it
abbrev pub Rising : ℕ → List Heading → Type 0
Rising from [] = Unit {0}
Rising from (s ∷ rest) = (from ≤ s.address) × Rising (s.address + s.size) rest

-- a segment has the eight bytes that begin at `place`
abbrev pub room_in : ℕ → Heading → Bool
room_in place s = nat_le s.address place && nat_le (place + 8) (s.address + s.size)

-- a list of bytes after the eight bytes of `value` were written at offset `at`
abbrev pub with_value : List ℕ → ℕ → ℕ → List ℕ
with_value bytes at value = take at bytes ++ little_bytes 8 value ++ drop (at + 8) bytes

-- a segment after a value was written at an address
abbrev pub patched_at : ImageSegment → ℕ → ℕ → ImageSegment
patched_at s place value =
    record { address = s.address; permissions = s.permissions; bytes = with_value s.bytes (place - s.address) value }

-- the byte at an address after the eight bytes of a value were written at `place`; `old` is the
-- byte before
abbrev pub over : ℕ → ℕ → Option ℕ → ℕ → Option ℕ
over place value old address = if within place 8 address then Some (byte_at (address - place) value) else old

-- the byte at an address after a relocation's write, or the old byte if there is no write
abbrev pub after : Option Write → Option ℕ → ℕ → Option ℕ
after (Some w) old address = over w.place w.value old address
after None old address = old

-- the eight bytes of a write lie within one segment and begin below 2^64
abbrev pub Lands : List Heading → Write → Type 0
Lands headings w = (w.place < 2 ^ 64) × (list_any (room_in w.place) headings ≡ true)

-- the segments are in ascending order of address and don't overlap; no segment ends above the limit; the sum of the
-- objects' `segment_count` is the number of segments
pub record IsWhole (objects : List ImageObject) (segments : List ImageSegment) : Type 0 where
  pub rising : Rising 0 (map heading segments)
  pub low : All (λ s. s.address + length s.bytes ≤ MEMORY_LIMIT) segments
  pub counted : sum_by (λ o. o.segment_count) objects ≡ length segments

-- the objects of the order, each at the base at the same position of `bases`
abbrev pub with_bases : List Named → List ℕ → List Placed
with_bases [] bases = []
with_bases (o ∷ os) [] = []
with_bases (o ∷ os) (b ∷ bs) = placed_at b o ∷ with_bases os bs

-- there is a base for each object of the order, and at these bases each object lies above the
-- object before it in memory
pub record IsPlaced (order : List Named) (bases : List ℕ) : Type 0 where
  pub counted : length bases ≡ length order
  pub stacked : Stacked 0 (with_bases order bases)
  pub accepted : AllAccepted (with_bases order bases)
