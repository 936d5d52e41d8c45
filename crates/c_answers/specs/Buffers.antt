-- An image in three buffers of a caller in C (own).
use Rattle.std.specs.Prelude.{◌≡◌, ◌⊎◌, ◌<◌, ◌+◌, ◌-◌, ◌^◌, ℕ, List, [], ◌∷◌, ◌++◌, length, take, min, None}
use Rattle.std.specs.List.{flat_map}
use Rattle.image.specs.Byte.{byte_of}
use Rattle.image.specs.Image.{ImageSegment, MemoryImage, image_byte}
use Rattle.states.specs.State.{State}
use Rattle.requests.specs.Binding.{bound_objects, bound_image, binding_refusal}
use Rattle.c_answers.specs.declared.answer.Answer.{Answer}
use Rattle.c_answers.specs.declared.place.SegmentPlace.{SegmentPlace}
use Rattle.c_answers.specs.declared.object.ObjectPlace.{ObjectPlace}
use Rattle.c_answers.specs.Numbers.{done, no_room}
use Rattle.c_answers.specs.Objects.{object_names, object_places}
use Rattle.c_answers.specs.Unsaid.{IsSilent, IsUnlisted}
use Rattle.byte_registry.specs.Bytes.{HoldStore}
use Rattle.registry.specs.Untested.{ReadsLibraries}

-- the bytes of all segments, one after the other
abbrev pub segment_bytes : List ImageSegment → List ℕ
segment_bytes segments = flat_map (λ s. s.bytes) segments

-- the place of a segment whose bytes begin at offset `from` of the buffer
abbrev pub place_of : ℕ → ImageSegment → SegmentPlace
place_of from s = record { address = s.address; length = length s.bytes; from = from; permissions = s.permissions }

-- the places of the segments, if the bytes of the first segment begin at offset `from`
abbrev pub places_of : ℕ → List ImageSegment → List SegmentPlace
places_of from [] = []
places_of from (s ∷ segments) = place_of from s ∷ places_of (from + length s.bytes) segments

-- the bytes of all segments, followed by the names of all objects, each followed by a byte 0
abbrev pub image_row : MemoryImage → List ℕ
image_row image = segment_bytes image.segments ++ object_names image.objects

-- The answer has the number of the image's objects and of its segments.
pub record CountsImage (image : MemoryImage) (answer : Answer) : Type 0 where
  pub objects : answer.objects ≡ length image.objects
  pub segments : answer.count ≡ length image.segments

-- The buffers have the image: its objects, its segments, and its bytes. The number of bytes is reported.
pub record IsLaidOut (image : MemoryImage) (objects : List ObjectPlace) (segments : List SegmentPlace) (row : List ℕ) (told_size : ℕ) : Type 0 where
  pub object_places : take (length image.objects) objects ≡ object_places (length (segment_bytes image.segments)) 0 image.objects
  pub segment_places : take (length image.segments) segments ≡ places_of 0 image.segments
  pub size : told_size ≡ length (image_row image)
  pub bytes : take told_size row ≡ image_row image

-- A buffer is too small for the image. The number of bytes of the image is reported.
pub record LacksSpace (image : MemoryImage) (objects : List ObjectPlace) (segments : List SegmentPlace) (row : List ℕ) (told_size : ℕ) : Type 0 where
  pub small : (length objects < length image.objects) ⊎ (length segments < length image.segments) ⊎ (length row < length (image_row image))
  pub size : told_size ≡ min (length (image_row image)) (2 ^ 64 - 1)

-- the buffers have the image, or a buffer is too small; no text is reported
abbrev pub IsImageGiven : MemoryImage → List ObjectPlace → List SegmentPlace → List ℕ → Answer → ℕ → Type 0
IsImageGiven image objects segments bytes answer status =
    (((status ≡ done) × IsLaidOut image objects segments bytes answer.bytes)
    ⊎ ((status ≡ no_room) × LacksSpace image objects segments bytes answer.bytes))
    × CountsImage image answer × IsUnlisted answer × IsSilent answer

-- The buffers have the image that is defined for a program at `base` in the state that the bytes
-- hold, with the defined byte at each address. Each file that the bind reads is a library.
pub record IsImageOf (disk program : List ℕ) (base : ℕ) (objects : List ObjectPlace) (segments : List SegmentPlace) (bytes : List ℕ) (answer : Answer) : Type 0 where
  pub state : State
  pub holds : HoldStore disk state
  pub only : (other : State) → HoldStore disk other → other ≡ state
  pub libraries : ReadsLibraries state program
  pub accepted : binding_refusal state program base ≡ None
  pub counts : CountsImage (bound_image state program base) answer
  pub given : IsLaidOut (bound_image state program base) objects segments bytes answer.bytes
  pub each : (a : ℕ) → image_byte (bound_image state program base) a ≡ byte_of (bound_objects state program base) a
