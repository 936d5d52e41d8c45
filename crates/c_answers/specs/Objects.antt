-- The objects of an image, for a caller in C (own).
use Rattle.std.specs.Prelude.{ℕ, ◌+◌, ◌^◌, ◌%◌, List, [], ◌∷◌, ◌++◌, length, Option, Some, None}
use Rattle.std.specs.List.{flat_map}
use Rattle.image.specs.declared.object.ImageObject.{ImageObject}
use Rattle.c_answers.specs.declared.object.ObjectPlace.{ObjectPlace}

-- the sum of `base` and `address` modulo 2^64, or 0 if there is no address
abbrev pub address_at : ℕ → Option ℕ → ℕ
address_at base (Some address) = (base + address) % 2 ^ 64
address_at base None = 0

-- the place of an object whose name is at offset `name` in the row of bytes, and whose first
-- segment is number `first` of the image
abbrev pub object_place : ℕ → ℕ → ImageObject → ObjectPlace
object_place name first o =
    record {
      base = o.base;
      name = name;
      name_length = length o.name;
      first_segment = first;
      segments = o.segment_count;
      headers = address_at o.base o.addresses.headers;
      header_count = o.addresses.header_count;
      dynamic = address_at o.base o.addresses.dynamic;
      entry = (o.base + o.addresses.entry) % 2 ^ 64;
    }

-- the places of the objects, if the name of the first object is at offset `name`, and its first
-- segment is number `first`
abbrev pub object_places : ℕ → ℕ → List ImageObject → List ObjectPlace
object_places name first [] = []
object_places name first (o ∷ objects) = object_place name first o ∷ object_places (name + length o.name + 1) (first + o.segment_count) objects

-- the names of all objects in a row, each followed by a byte 0
abbrev pub object_names : List ImageObject → List ℕ
object_names objects = flat_map (λ o. o.name ++ 0 ∷ []) objects
