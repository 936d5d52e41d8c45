-- The tests of a command, in the order in which they are made. Each test reads the table and the
-- request (own).
use Rattle.std.specs.Prelude.{ℕ, ◌||◌, List, [], ◌∷◌, length, map, Bool, false, not, nat_lt, Option}
use Rattle.std.specs.List.{list_any}
use Rattle.std.specs.Option.{option_map}
use Rattle.elf_file.specs.FirstOf.{◌when◌, first_of}
use Rattle.states.specs.Limits.{most_preloads}
use Rattle.states.specs.Room as room
use Rattle.states.specs.Room.{RoomRefusal, Room, change_tests, put_tests, new_tests}
use Rattle.requests.specs.Library.{library_refusal, name_of}
use Rattle.states.specs.State.{has_name}
use Rattle.requests.specs.Table.{Table}
use Rattle.requests.specs.Request.{Request, install, replace, remove, set_preloads}
use Rattle.requests.specs.declared.refusal.Refusal.{Refusal}
use Rattle.requests.specs.declared.refusal.Refusal.TheVariants.{Object, AlreadyInstalled, NotInstalled, InPreloads, RepeatedPreload}
use Rattle.requests.specs.declared.refusal.Refusal.TheVariants.{TooManyPreloads, Full, Fragmented, TooMany, GenerationEnd}

-- a library with this name is installed
abbrev pub is_installed : Table → List ℕ → Bool
is_installed t name = has_name t.names name

-- a name occurs more than once
abbrev pub has_repeat : List (List ℕ) → Bool
has_repeat [] = false
has_repeat (name ∷ others) = has_name others name || has_repeat others

-- the refusal of a command if there is no room
abbrev pub refusal_of_room : RoomRefusal → Refusal
refusal_of_room room.TooMany = TooMany
refusal_of_room room.GenerationEnd = GenerationEnd
refusal_of_room room.Full = Full
refusal_of_room room.Fragmented = Fragmented

-- the refusals of the tests of room that refuse, in the order of the tests
abbrev pub for_room : List (Bool × RoomRefusal) → List (Option Refusal)
for_room tests = map (λ test. refusal_of_room test.1 when test.0) tests

-- the facts that the tests for room read
abbrev pub room_in : Table → Room
room_in t = record { generation = t.generation; libraries = length t.names; free = t.free; longest = t.longest }

-- the tests for C1 and C2, and then those of room
abbrev pub install_tests : Table → List ℕ → List (Option Refusal)
install_tests t bytes =
    option_map Object (library_refusal bytes)
    ∷ (AlreadyInstalled when is_installed t (name_of bytes))
    ∷ for_room (new_tests (room_in t) (length bytes))

-- the tests for C1 and C3, and then those of room except the test of the number of libraries
abbrev pub replace_tests : Table → List ℕ → List (Option Refusal)
replace_tests t bytes =
    option_map Object (library_refusal bytes)
    ∷ (NotInstalled when not (is_installed t (name_of bytes)))
    ∷ for_room (put_tests (room_in t) 0 (length bytes))

-- the tests for C3 and C4, and then the test of the generation
abbrev pub remove_tests : Table → List ℕ → List (Option Refusal)
remove_tests t name =
    (NotInstalled when not (is_installed t name))
    ∷ (InPreloads when has_name t.preloads name)
    ∷ for_room (change_tests t.generation)

-- the tests for C6, C5 and C3, and then the test of the generation
abbrev pub preload_tests : Table → List (List ℕ) → List (Option Refusal)
preload_tests t names =
    (TooManyPreloads when nat_lt most_preloads (length names))
    ∷ (RepeatedPreload when has_repeat names)
    ∷ (NotInstalled when list_any (λ name. not (is_installed t name)) names)
    ∷ for_room (change_tests t.generation)

-- The tests of a command. They read no file except the command's own. A bind and a listing have no
-- such tests.
abbrev pub tests_of : Table → Request → List (Option Refusal)
tests_of t (install bytes) = install_tests t bytes
tests_of t (replace bytes) = replace_tests t bytes
tests_of t (remove name) = remove_tests t name
tests_of t (set_preloads names) = preload_tests t names
tests_of t request = []

-- the refusal of a command by the first of these tests that refuses it, or none
abbrev pub first_refusal : Table → Request → Option Refusal
first_refusal t request = first_of (tests_of t request)
