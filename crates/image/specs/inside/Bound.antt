-- The values of symbols while the code finds them, and images of the first objects.
use Rattle.std.specs.Prelude.{ℕ, ◌≡◌, Bool, List, length, map, take, slice_get, Some, true}
use Rattle.std.specs.List.{flat_map, range_with_len}
use Rattle.elf_dynamic.specs.Symbol.{symbols}
use Rattle.image.specs.Bound.{IsKnown}
use Rattle.image.specs.Byte.{byte_after}
use Rattle.image.specs.Image.{MemoryImage, heading, image_byte, object_of}
use Rattle.image.specs.Loading.{all_loaded}
use Rattle.image.specs.Placement.{Placed}
use Rattle.image.specs.Relocating.{file_at, writes_of}

-- `known` marks the symbols of object number `own` whose values are in `values`; both lists are in
-- the order of the symbol numbers
pub record AreValues (objects : List Placed) (own : ℕ) (values : List ℕ) (known : List Bool) : Type 0 where
  pub counted : length values ≡ length (symbols (file_at objects own))
  pub flags : length known ≡ length values
  pub are : (k : ℕ) → slice_get known k ≡ Some true → IsKnown objects own values k

-- an image of the first `count` objects
pub record IsFilled (objects : List Placed) (count : ℕ) (image : MemoryImage) : Type 0 where
  pub objects_are : image.objects ≡ map object_of (take count objects)
  pub headings : map heading image.segments ≡ map (λ l. l.heading) (all_loaded (take count objects))
  pub bytes : (a : ℕ) → image_byte image a
      ≡ byte_after (all_loaded (take count objects)) (flat_map (writes_of objects) (range_with_len 0 count)) a
