-- The text about placed objects, and the text about the libraries that were found for a program.
use Rattle.std.specs.Prelude.{◌≡◌, ◌≢◌, ◌⊎◌, ℕ, List, None, map, true, false}
use Rattle.bindings.specs.Bindings.{bindings_text}
use Rattle.bindings.specs.Dependencies.{dependencies_text}
use Rattle.image.specs.Placement.{Placed, lacks_room, place}
use Rattle.image.specs.Refusal.{undefined_refusal}
use Rattle.image.specs.declared.refusal.BindRefusal.TheVariants.{NoRoom}
use Rattle.registry.specs.Found.{Found}
use Rattle.requests.specs.Binding.{object_of}
use Rattle.requests.specs.declared.refusal.Refusal.{Refusal}
use Rattle.requests.specs.declared.refusal.Refusal.TheVariants.{Bind, OutOfMemory}
use Rattle.scope.specs.LoadOrder.{available, names_of}
use Rattle.scope.specs.Objects.{Named}
use Rattle.c_answers.specs.Bindings.{bound_number}

-- The objects have room, and the text is about the bindings of their symbols.
pub record IsPlacedText (objects : List Placed) (number : ℕ) (said : List ℕ) : Type 0 where
  pub room : lacks_room objects ≡ false
  pub text : said ≡ bindings_text objects
  pub number_is : number ≡ bound_number (undefined_refusal objects)

-- the reason why there is no text: the objects have no room, or memory was refused
abbrev pub IsUnplaced : List Placed → Refusal → Type 0
IsUnplaced objects why = ((why ≡ Bind NoRoom) × (lacks_room objects ≡ true)) ⊎ (why ≡ OutOfMemory)

-- the program and the libraries that were found for it
abbrev pub found_objects : List ℕ → Found → List Named
found_objects program found = available program (map object_of found.libraries)

-- the text about the libraries that were found for a program, and about the missing ones
abbrev pub found_text : List ℕ → Found → List ℕ
found_text program found = dependencies_text (names_of (map object_of found.libraries)) (found_objects program found)

-- no name is missing, and the text is about the placed objects; or a name is missing, and the text
-- is about the found and the missing libraries
abbrev pub IsFoundText : List ℕ → ℕ → Found → ℕ → List ℕ → Type 0
IsFoundText program base found number said =
    ((found.missing ≡ None) × IsPlacedText (place base (found_objects program found)) number said)
    ⊎ ((found.missing ≢ None) × (number ≡ 103) × (said ≡ found_text program found))

-- the reason why there is neither the text about the placed objects nor the text about missing libraries
abbrev pub IsUnfoundText : List ℕ → ℕ → Found → Refusal → Type 0
IsUnfoundText program base found why =
    ((found.missing ≡ None) × IsUnplaced (place base (found_objects program found)) why) ⊎ (why ≡ OutOfMemory)
