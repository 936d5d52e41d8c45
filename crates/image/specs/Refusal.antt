-- The refusals of a bind, and the binds that may return OutOfMemory.
use Rattle.std.specs.Prelude.{ℕ, ◌≡◌, ◌⊎◌, List, [], ◌∷◌, ◌++◌, map, length, take, not, true, false, Option, Some}
use Rattle.std.specs.List.{range_with_len}
use Rattle.std.specs.Option.{option_map}
use Rattle.elf_file.specs.FirstOf.{◌when◌, first_of}
use Rattle.elf_dynamic.specs.Strings.{name_of}
use Rattle.elf_dynamic.specs.declared.relocation.Relocation.{Relocation}
use Rattle.hash_check.specs.FileRefusal.{first_file_refusal, ReadNeedsMemory}
use Rattle.scope.specs.LoadOrder.{Need, missing}
use Rattle.scope.specs.Objects.{Named}
use Rattle.scope.specs.declared.refusal.OrderRefusal.{OrderRefusal}
use Rattle.scope.specs.declared.refusal.OrderRefusal.TheVariants as order
use Rattle.image.specs.Placement.{Placed, objects_of, is_good_base, lacks_room}
use Rattle.image.specs.Relocating.{name_at, file_at, first_undefined}
use Rattle.image.specs.declared.refusal.BindRefusal.{BindRefusal}
use Rattle.image.specs.declared.refusal.BindRefusal.TheVariants.{Program, BadBase, Missing, NoRoom, Undefined, OutOfMemory}

-- the refusal for relocation `r` of object number `own`, which has no value: it has the names of
-- the object and of the symbol
abbrev pub undefined_by : List Placed → ℕ → Relocation → BindRefusal
undefined_by objects own r = Undefined (name_at objects own) (name_of (file_at objects own) r.symbol)

-- the refusal for the first relocation of object number `own` that has no value, or none
unfoldable pub undefined_in : List Placed → ℕ → Option BindRefusal
undefined_in objects own = option_map (undefined_by objects own) (first_undefined objects own)

-- the refusal for the first relocation that has no value, in the first object in load order that
-- has such a relocation; or none
unfoldable pub undefined_refusal : List Placed → Option BindRefusal
undefined_refusal objects = first_of (map (undefined_in objects) (range_with_len 0 (length objects)))

-- the tests B4 (the end of an object's memory is too high) and B5 (the first relocation that has no
-- value)
abbrev pub placed_tests : List Placed → List (Option BindRefusal)
placed_tests objects = (NoRoom when lacks_room objects) ∷ undefined_refusal objects ∷ []

-- the refusal of placed objects: that of the first test that refuses, or none
unfoldable pub placed_refusal : List Placed → Option BindRefusal
placed_refusal objects = first_of (placed_tests objects)

-- the refusal for a missing library, with the name of the object that needs it
abbrev pub missing_by : Need → BindRefusal
missing_by need = Missing need.needer need.name

-- the refusal of a bind that has no load order
abbrev pub of_order : OrderRefusal → BindRefusal
of_order (order.Missing needer name) = Missing needer name
of_order order.OutOfMemory = OutOfMemory

-- the tests B1 (the first test that refuses the file) and B2 (the base isn't a multiple of the
-- program's unit)
abbrev pub program_tests : List ℕ → ℕ → List (Option BindRefusal)
program_tests file base = option_map Program (first_file_refusal file) ∷ (BadBase when not (is_good_base file base)) ∷ []

-- the refusal of a program's file and base: that of the first of these tests that refuses, or none
unfoldable pub program_refusal : List ℕ → ℕ → Option BindRefusal
program_refusal file base = first_of (program_tests file base)

-- all tests of a bind: B1 and B2; then B3, the first needed library that isn't among `libraries`; then B4 and B5 of the
-- placed objects
abbrev pub bind_tests : List ℕ → ℕ → List Named → List ℕ → List (Option BindRefusal)
bind_tests file base libraries preloads =
    program_tests file base
    ++ option_map missing_by (missing file libraries preloads)
    ∷ placed_refusal (objects_of file base libraries preloads)
    ∷ []

-- the refusal of a bind: that of the first test that refuses, or none
unfoldable pub bind_refusal : List ℕ → ℕ → List Named → List ℕ → Option BindRefusal
bind_refusal file base libraries preloads = first_of (bind_tests file base libraries preloads)

-- the refusal of a bind without libraries and preloads
abbrev pub alone_refusal : List ℕ → ℕ → Option BindRefusal
alone_refusal file base = bind_refusal file base [] []

-- a bind may return OutOfMemory: the tests before admission don't refuse the file, and admission
-- allocates
abbrev pub WantsMemory : List ℕ → Type 0
WantsMemory file = ReadNeedsMemory file

-- `admit_program` may return this refusal
abbrev pub IsProgramAnswer : List ℕ → ℕ → BindRefusal → Type 0
IsProgramAnswer file base OutOfMemory = WantsMemory file
IsProgramAnswer file base answer = program_refusal file base ≡ Some answer

-- a bind may return this refusal: it is that of the first test that refuses, or it is OutOfMemory
-- and `WantsMemory` holds
abbrev pub IsAnswer : List ℕ → ℕ → List Named → List ℕ → BindRefusal → Type 0
IsAnswer file base libraries preloads OutOfMemory = WantsMemory file
IsAnswer file base libraries preloads answer = bind_refusal file base libraries preloads ≡ Some answer

-- the answer is the refusal, or OutOfMemory, because the names in a refusal are allocated
abbrev pub IsOrWantsMemory : BindRefusal → BindRefusal → Type 0
IsOrWantsMemory refusal answer = (answer ≡ refusal) ⊎ (answer ≡ OutOfMemory)

-- a placement may return OutOfMemory: the end of the first object's memory isn't too high
abbrev pub PlacesWantMemory : List Placed → Type 0
PlacesWantMemory objects = lacks_room (take 1 objects) ≡ false

-- a placement may return this refusal: it is NoRoom, and there is no room for the objects; or it is
-- OutOfMemory, and `PlacesWantMemory` holds
abbrev pub IsPlaceAnswer : List Placed → BindRefusal → Type 0
IsPlaceAnswer objects answer = ((answer ≡ NoRoom) × (lacks_room objects ≡ true)) ⊎ ((answer ≡ OutOfMemory) × PlacesWantMemory objects)

-- a bind of placed objects may return this refusal: it is that of the first test that refuses, or
-- it is OutOfMemory and `PlacesWantMemory` holds
abbrev pub IsPlacedAnswer : List Placed → BindRefusal → Type 0
IsPlacedAnswer objects answer = (placed_refusal objects ≡ Some answer) ⊎ ((answer ≡ OutOfMemory) × PlacesWantMemory objects)

-- the answer is the refusal `first`, or it is OutOfMemory
abbrev pub IsFirstOrWantsMemory : Option BindRefusal → BindRefusal → Type 0
IsFirstOrWantsMemory first answer = (first ≡ Some answer) ⊎ (answer ≡ OutOfMemory)
