-- The findings of a bind while it walks through the files of its load order.
use Rattle.std.specs.Prelude.{◌≡◌, ℕ, ◌+◌, ◌-◌, ◌<◌, List, [], ◌∷◌, ◌++◌, length, map, take, drop, get_or, slice_index_or}
use Rattle.std.specs.Prelude.{Option, Some, None, Result, IfOk, IfErr, OnOk}
use Rattle.std.specs.List.{filter_map, flat_map, find}
use Rattle.std.specs.Option.{option_map, option_or}
use Rattle.sector_disk.specs.Disk.{DiskFacts, AreCallsExactly}
use Rattle.elf_file.specs.FirstOf.{first_of}
use Rattle.scope.specs.LoadOrder.{Need, available, place_of, needs_of, level_0, object_at, needed_by, is_missing, names_of}
use Rattle.scope.specs.Queue.{Queue}
use Rattle.scope.specs.inside.Growing.{grown}
use Rattle.scope.specs.inside.Reached.{Reached}
use Rattle.image.specs.Byte.{byte_of}
use Rattle.image.specs.Image.{MemoryImage, image_byte, image_of}
use Rattle.image.specs.Placement.{Placed, place}
use Rattle.image.specs.Refusal.{placed_refusal, missing_by, IsFirstOrWantsMemory}
use Rattle.image.specs.declared.refusal.BindRefusal.{BindRefusal}
use Rattle.store.specs.Opened.{Opened}
use Rattle.store.specs.Stands.{no_library}
use Rattle.store.specs.declared.placed_entry.PlacedEntry.{PlacedEntry}
use Rattle.requests.specs.Binding.{object_of, objects, preload_numbers}
use Rattle.requests.specs.Library.{IsLibrary}
use Rattle.states.specs.State.{Library, State}
use Rattle.registry.specs.Binding.{data_sectors}
use Rattle.registry.specs.declared.needs.Needs.{Needs}
use Rattle.registry.specs.declared.source.Source.{Source}
use Rattle.registry.specs.inside.Source.{HasEntries, HasFiles}

-- The needs after the walk has examined an object that needs the names `needed`. The places of the
-- files with these names are added. The first missing name is stored, unless a missing name was
-- stored before.
abbrev pub more_needs : List (List ℕ) → Needs → List ℕ → List (List ℕ) → Needs
more_needs names needs needer needed = record {
  places = record { limit = needs.places.limit; places = grown needs.places.places (filter_map (place_of names) needed) };
  missing = option_or needs.missing (find (is_missing names) (map (λ name. record { needer = needer; name = name }) needed));
}

-- The needs only grow: the queue keeps its first places, and a stored missing name stays stored.
pub record Grows (old new : Needs) : Type 0 where
  pub limit : new.places.limit ≡ old.places.limit
  pub begins : take (length old.places.places) new.places.places ≡ old.places.places
  pub missing : (need : Need) → old.missing ≡ Some need → new.missing ≡ Some need

-- the queue has places for the program and for at most `count` files; the program is first
pub record ArePlaces (count : ℕ) (queue : Queue) : Type 0 where
  pub limit : queue.limit ≡ count + 1
  pub first : get_or queue.places 0 1 ≡ 0

-- a walk among `count` files has these needs, and has read at most as many files as its queue has after
-- the program
pub record IsAmong (count : ℕ) (needs : Needs) (files : List Library) : Type 0 where
  pub places : ArePlaces count needs.places
  pub within : length files < length needs.places.places

-- the place of the next file to read
abbrev pub next_place : Needs → List Library → ℕ
next_place needs files = get_or needs.places.places (length files + 1) 0

-- the places of the first `count` files in the queue, which come after the program's place
abbrev pub walked : List ℕ → ℕ → List ℕ
walked places count = drop 1 (take (count + 1) places)

-- In state s, the program was examined, and then the files at the next places of the queue, each
-- once. The queue has the places of the files that the program and these files need, and the first
-- needed name that no file has is stored.
pub record IsWalked (program : List ℕ) (s : State) (needs : Needs) (files : List Library) : Type 0 where
  pub among : IsAmong (length s.libraries) needs files
  pub missing : needs.missing ≡ find (is_missing (names_of (objects s))) (flat_map needed_by (available program (map object_of files)))
  pub each : map object_of files ≡ map (object_at (available program (objects s))) (walked needs.places.places (length files))
  pub reached : Reached (needs_of program (objects s)) (length (available program (objects s))) (level_0 (preload_numbers s)) needs.places.places (length files + 1)

-- The file at the next place was read and appended to `files`, with one call for each of its sectors,
-- and the file is a library.
pub record HasReadNext {D : Type 0} (facts : D → DiskFacts) (source : Source) (old new : Opened D) (needs : Needs) (files more : List Library) : Type 0 where
  pub file : Library
  pub behind : more ≡ files ++ file ∷ []
  pub library : IsLibrary file
  pub is : (s : State) → HasFiles facts source old s → file ≡ slice_index_or s.libraries (next_place needs files - 1) no_library
  pub calls : (entries : List PlacedEntry) → HasEntries source old entries → AreCallsExactly (data_sectors file.bytes) (facts old.disk) (facts new.disk)

-- the program and the files that were read, at their addresses if the program is at `base`
abbrev pub walked_objects : List ℕ → ℕ → List Library → List Placed
walked_objects program base files = place base (available program (map object_of files))

-- B3 if a name is missing, and otherwise the first of B4 and B5 that refuses, or none
abbrev pub walked_refusal : List ℕ → ℕ → Option Need → List Library → Option BindRefusal
walked_refusal program base missing files =
    first_of (option_map missing_by missing ∷ placed_refusal (walked_objects program base files) ∷ [])

-- `first` is the first refusal of the tests, or none. If `answer` is a success, no test refuses. If
-- `answer` is a refusal, it is `first` or states that memory was refused.
pub record IsTestedBy {A : Type 0} (first : Option BindRefusal) (answer : Result A BindRefusal) : Type 0 where
  pub accepted : OnOk answer (first ≡ None)
  pub refused : IfErr answer (IsFirstOrWantsMemory first)

-- The answer is the image of these objects, and no test refuses; or the answer is the first
-- refusal, or states that memory was refused.
pub record IsImageOf (first : Option BindRefusal) (objects : List Placed) (answer : Result MemoryImage BindRefusal) : Type 0 where
  pub tested : IsTestedBy first answer
  pub ok : IfOk answer (λ image. image ≡ image_of objects)
  pub bytes : IfOk answer (λ image. (a : ℕ) → image_byte image a ≡ byte_of objects a)

-- the answer to binding a program with the files of its load order, with the tests from B4 on
abbrev pub IsBoundWith : List ℕ → ℕ → List Library → Result MemoryImage BindRefusal → Type 0
IsBoundWith program base files answer = IsImageOf (placed_refusal (walked_objects program base files)) (walked_objects program base files) answer

-- the answer to binding a program with the findings of a walk, with the tests from B3 on
abbrev pub IsBoundBy : List ℕ → ℕ → Option Need → List Library → Result MemoryImage BindRefusal → Type 0
IsBoundBy program base missing files answer = IsImageOf (walked_refusal program base missing files) (walked_objects program base files) answer
