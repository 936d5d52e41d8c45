-- Binding a program against the state of a registry (own).
use Rattle.std.specs.Prelude.{ℕ, List, map, position, Option}
use Rattle.std.specs.List.{filter_map}
use Rattle.std.specs.Str.{bytes_eq}
use Rattle.scope.specs.Objects.{Named}
use Rattle.image.specs.Placement.{Placed, objects_of}
use Rattle.image.specs.Image.{MemoryImage, image_of}
use Rattle.image.specs.Refusal.{bind_refusal}
use Rattle.image.specs.declared.refusal.BindRefusal.{BindRefusal}
use Rattle.image.specs.declared.refusal.BindRefusal.TheVariants as bind
use Rattle.states.specs.State.{Library, State, names_of}
use Rattle.requests.specs.declared.refusal.Refusal.{Refusal}
use Rattle.requests.specs.declared.refusal.Refusal.TheVariants.{Bind, OutOfMemory}

-- a library as an object
abbrev pub object_of : Library → Named
object_of l = record { name = l.name; file = l.bytes }

-- the libraries as objects, in the order in which they were installed
abbrev pub objects : State → List Named
objects s = map object_of s.libraries

-- the positions of the preloads in the list of libraries, in the order of the preloads
abbrev pub preload_numbers : State → List ℕ
preload_numbers s = filter_map (λ name. position (bytes_eq name) (names_of s.libraries)) s.preloads

-- the objects that are bound for a program at a base, in load order, each at its base
abbrev pub bound_objects : State → List ℕ → ℕ → List Placed
bound_objects s program base = objects_of program base (objects s) (preload_numbers s)

-- B1 to B5: the refusal of a bind by the first test that refuses it, or none
abbrev pub binding_refusal : State → List ℕ → ℕ → Option BindRefusal
binding_refusal s program base = bind_refusal program base (objects s) (preload_numbers s)

-- the image that a bind returns if no test refuses it
abbrev pub bound_image : State → List ℕ → ℕ → MemoryImage
bound_image s program base = image_of (bound_objects s program base)

-- the refusal of a command whose bind is refused; refused memory is reported as S11
abbrev pub of_bind : BindRefusal → Refusal
of_bind bind.OutOfMemory = OutOfMemory
of_bind refusal = Bind refusal
