-- The findings for a registry's libraries, in two buffers of a caller in C (own).
use Rattle.std.specs.Prelude.{◌≡◌, ◌⊎◌, ◌<◌, ◌-◌, ◌^◌, ℕ, List, ◌∷◌, [], ◌++◌, length, min, slice_index_or, take}
use Rattle.std.specs.List.{flat_map}
use Rattle.states.specs.State.{Library, State}
use Rattle.store.specs.Stands.{no_library}
use Rattle.store.specs.declared.refusal.StoreRefusal.{StoreRefusal}
use Rattle.contents.specs.Finding.{IsFinding}
use Rattle.contents.specs.declared.finding.Finding.{Finding}
use Rattle.contents.specs.declared.finding.Finding.TheVariants.{Sound, Refused, OtherName, Unreadable}
use Rattle.byte_registry.specs.Bytes.{HaveNoContents, HoldStore}
use Rattle.c_answers.specs.Answers.{IsTurnedAway, WantsMemory}
use Rattle.c_answers.specs.Numbers.{done, no_room, file_number}
use Rattle.c_answers.specs.Unsaid.{IsSilent, IsUnbound, IsUncounted, IsUnlisted}
use Rattle.c_answers.specs.declared.answer.Answer.{Answer}
use Rattle.c_answers.specs.declared.finding.FindingPlace.{FindingPlace}

-- the number of the finding for a file that is a library with its entry's name
abbrev pub sound : ℕ
sound = 0

-- the number of the finding for a file that is a library with another name
abbrev pub other_name : ℕ
other_name = 100

-- The number of a finding. If a file is refused, it is the number n of the first test En that
-- refuses the file, which is greater than `sound` and less than `other_name`. A library that can't
-- be read has no number.
abbrev pub HasNumber : Finding → ℕ → Type 0
HasNumber Sound number = number ≡ sound
HasNumber (Refused why) number = number ≡ file_number why
HasNumber OtherName number = number ≡ other_name
HasNumber Unreadable number = ⊥

-- the number is that of a true finding of the library
abbrev pub IsFound : Library → ℕ → Type 0
IsFound l number = (finding : Finding) × IsFinding l finding × HasNumber finding number

-- the names of libraries in a row, each followed by a byte 0
abbrev pub library_names : List Library → List ℕ
library_names libraries = flat_map (λ l. l.name ++ 0 ∷ []) libraries

-- the offset of the name of library number `i` in the row of names
abbrev pub name_start : List Library → ℕ → ℕ
name_start libraries i = length (library_names (take i libraries))

-- The place of a library has the offset `from` and the length of the library's name, and the number of
-- the finding.
pub record IsFoundAt (from : ℕ) (l : Library) (place : FindingPlace) : Type 0 where
  pub name : place.name ≡ from
  pub name_length : place.name_length ≡ length l.name
  pub finding : IsFound l place.finding

-- The buffers have the finding for each of these libraries, and its name. The number of bytes of
-- the names is reported.
pub record AreFound (libraries : List Library) (findings : List FindingPlace) (row : List ℕ) (told_size : ℕ) : Type 0 where
  pub each : (i : ℕ) → i < length libraries → (d : FindingPlace)
      → IsFoundAt (name_start libraries i) (slice_index_or libraries i no_library) (slice_index_or findings i d)
  pub size : told_size ≡ length (library_names libraries)
  pub names : take told_size row ≡ library_names libraries

-- A buffer is too small for the findings or the names. The number of bytes of the names is
-- reported.
pub record LackPlaces (libraries : List Library) (findings : List FindingPlace) (row : List ℕ) (told_size : ℕ) : Type 0 where
  pub small : (length findings < length libraries) ⊎ (length row < length (library_names libraries))
  pub size : told_size ≡ min (length (library_names libraries)) (2 ^ 64 - 1)

-- the buffers have the findings, or a buffer is too small; no text is reported
abbrev pub IsCheckGiven : List Library → List FindingPlace → List ℕ → Answer → ℕ → Type 0
IsCheckGiven libraries findings names answer status =
    (((status ≡ done) × AreFound libraries findings names answer.bytes)
    ⊎ ((status ≡ no_room) × LackPlaces libraries findings names answer.bytes))
    × (answer.count ≡ length libraries) × IsUnlisted answer × IsUnbound answer × IsSilent answer

-- the buffers have the findings, or a buffer is too small, or memory was refused
abbrev pub IsCheckTold : List Library → List FindingPlace → (names text : List ℕ) → Answer → ℕ → Type 0
IsCheckTold libraries findings names text answer status =
    IsCheckGiven libraries findings names answer status
    ⊎ (WantsMemory text answer.text answer.file_refusal status × IsUncounted answer)

-- The bytes hold a registry, and the buffers have the finding for each library, or a buffer is too
-- small, or memory was refused; or there is no registry, and the call reports why.
abbrev pub IsCheckAnswered : (disk : List ℕ) → List FindingPlace → (names text : List ℕ) → Answer → ℕ → Type 0
IsCheckAnswered disk findings names text answer status =
    ((s : State) × HoldStore disk s
    × IsCheckTold s.libraries findings names text answer status)
    ⊎ ((why : StoreRefusal) × HaveNoContents disk why × IsTurnedAway why text answer status)

-- The buffers have the finding for each library of the state that the bytes hold, in the order of
-- the libraries.
pub record IsCheckOf (disk : List ℕ) (findings : List FindingPlace) (names : List ℕ) (answer : Answer) : Type 0 where
  pub state : State
  pub holds : HoldStore disk state
  pub count : answer.count ≡ length state.libraries
  pub found : AreFound state.libraries findings names answer.bytes
