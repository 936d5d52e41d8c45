-- The search for a name among objects (gABI chapter 5, "Shared Object Dependencies", DT_SYMBOLIC and
-- DF_SYMBOLIC; ld.so(8): the first definition counts, whether it is weak or not).
use Rattle.std.specs.Prelude.{ℕ, List, ◌∷◌, length, map, Option, if◌then◌else◌}
use Rattle.std.specs.List.{range_with_len}
use Rattle.std.specs.Option.{option_map}
use Rattle.elf_file.specs.FirstOf.{first_of}
use Rattle.elf_file.specs.Dynamic.{is_symbolic}
use Rattle.hash_check.specs.Definition.{definition_of}
use Rattle.scope.specs.Objects.{Named, file_at}
use Rattle.scope.specs.declared.target.Target.{Target}
use Rattle.scope.specs.declared.target.Target.TheVariants.{At}

-- the places of all objects, in load order
abbrev pub all_places : List Named → List ℕ
all_places objects = range_with_len 0 (length objects)

-- The places that are searched for the symbols of an object, in this order: the object's own place
-- if the object is symbolic, and then all places in load order.
abbrev pub scope_of : List Named → ℕ → List ℕ
scope_of objects object =
    if is_symbolic (file_at objects object) then object ∷ all_places objects else all_places objects

-- the symbol that the object at `place` exports under `name`, as a target
abbrev pub definition_at : List Named → List ℕ → ℕ → Option Target
definition_at objects name place = option_map (At place) (definition_of (file_at objects place) name)

-- the first definition of `name`, which may be weak, in the places that are searched for an object
unfoldable pub lookup : List Named → ℕ → List ℕ → Option Target
lookup objects object name = first_of (map (definition_at objects name) (scope_of objects object))
