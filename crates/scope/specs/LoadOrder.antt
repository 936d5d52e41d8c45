-- Load order (gABI chapter 5, "Shared Object Dependencies"; ld.so(8), LD_PRELOAD), and the first
-- name that isn't installed.
use Rattle.std.specs.Prelude.{ℕ, ◌+◌, List, ◌∷◌, map, length, Bool, Option, is_none, position}
use Rattle.std.specs.List.{filter_map, flat_map, find}
use Rattle.std.specs.Option.{option_map}
use Rattle.std.specs.Str.{bytes_eq}
use Rattle.elf_dynamic.specs.Strings.{needed}
use Rattle.scope.specs.Objects.{Named, program_name, name_at, file_at}
use Rattle.scope.specs.Levels.{joined_levels}

-- A program and the installed libraries in one list. An object is identified by its place in the list: 0
-- is the program, and p + 1 is library number p (own).
abbrev pub available : List ℕ → List Named → List Named
available program libraries = record { name = program_name; file = program } ∷ libraries

-- the names of the objects
abbrev pub names_of : List Named → List (List ℕ)
names_of objects = map (λ o. o.name) objects

-- the place of the first library with the name `name`, if one is installed; `names` has the names of the libraries
abbrev pub place_of : List (List ℕ) → List ℕ → Option ℕ
place_of names name = option_map (λ p. p + 1) (position (bytes_eq name) names)

-- the places of the installed libraries that the object at `place` needs, in the order of the object's DT_NEEDED
-- entries
abbrev pub needs_of : List ℕ → List Named → ℕ → List ℕ
needs_of program libraries place =
    filter_map (place_of (names_of libraries)) (needed (file_at (available program libraries) place))

-- level 0: the program, followed by the preloads, which are numbers of libraries
abbrev pub level_0 : List ℕ → List ℕ
level_0 preloads = 0 ∷ map (λ p. p + 1) preloads

-- The places of the objects in load order, level by level. The number of objects is a limit for the
-- number of levels that have objects.
unfoldable pub load_places : List ℕ → List Named → List ℕ → List ℕ
load_places program libraries preloads =
    joined_levels (needs_of program libraries) (length (available program libraries)) (level_0 preloads)

-- the object at `place`
abbrev pub object_at : List Named → ℕ → Named
object_at objects place = record { name = name_at objects place; file = file_at objects place }

-- the objects in load order
unfoldable pub load_order : List ℕ → List Named → List ℕ → List Named
load_order program libraries preloads = map (object_at (available program libraries)) (load_places program libraries preloads)

-- an object's name, and a name that the object needs
pub record Need : Type 0 where
  pub needer : List ℕ
  pub name : List ℕ

-- the names that an object needs, in the order of the object's DT_NEEDED entries, each with the
-- object's name
abbrev pub needed_by : Named → List Need
needed_by object = map (λ name. record { needer = object.name; name = name }) (needed object.file)

-- no library is installed under the needed name
abbrev pub is_missing : List (List ℕ) → Need → Bool
is_missing names need = is_none (place_of names need.name)

-- the first needed name that isn't installed, or none; the objects are taken in load order, and the
-- needed names of each object in the order of its DT_NEEDED entries
unfoldable pub missing : List ℕ → List Named → List ℕ → Option Need
missing program libraries preloads = find (is_missing (names_of libraries)) (flat_map needed_by (load_order program libraries preloads))
