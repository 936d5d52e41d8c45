-- The tests for lack of room: the store's list of tests and the commands' list are the same.
use Rattle.std.proofs.Common.{◌≡◌, ◌≢◌, Bool, true, false, List, [], ◌∷◌, Option, Some, None, refl}
use Rattle.std.specs.Option.{option_map}
use Rattle.elf_file.specs.FirstOf.{◌when◌, first_of}
use Rattle.hash_check.specs.declared.file_refusal.FileRefusal.{FileRefusal}
use Rattle.states.specs.Room.{RoomRefusal, TooMany, GenerationEnd, Full, Fragmented}
use Rattle.store.specs.Step as step
use Rattle.store.specs.declared.refusal.StoreRefusal.TheVariants as store_refusal
use Rattle.requests.specs.Tests.{for_room}
use Rattle.requests.specs.declared.refusal.Refusal.{Refusal}
use Rattle.requests.specs.declared.refusal.Refusal.TheVariants.{Object}
use Rattle.registry.specs.Refusals.{refusal_of}

-- the first refusal in the commands' list is the first refusal of the store's tests, as a refusal of a
-- command
pub same_first : (tests : List (Bool × RoomRefusal)) → first_of (for_room tests) ≡ option_map refusal_of (step.first_refusal tests)
same_first [] = refl
same_first ((false, refusal) ∷ tests) = same_first tests
same_first ((true, TooMany) ∷ tests) = refl
same_first ((true, GenerationEnd) ∷ tests) = refl
same_first ((true, Full) ∷ tests) = refl
same_first ((true, Fragmented) ∷ tests) = refl

-- no test for lack of room refuses with S1
pub deviceless : (tests : List (Bool × RoomRefusal)) → step.first_refusal tests ≢ Some store_refusal.Device
deviceless [] = λ is. cc
deviceless ((false, refusal) ∷ tests) = deviceless tests
deviceless ((true, TooMany) ∷ tests) = λ is. cc
deviceless ((true, GenerationEnd) ∷ tests) = λ is. cc
deviceless ((true, Full) ∷ tests) = λ is. cc
deviceless ((true, Fragmented) ∷ tests) = λ is. cc

-- The tests of a put are those of its file, that of its name, and then `others`.
module _ (file : Option FileRefusal) (refusal : Refusal) (name : Bool) (others : List (Option Refusal)) where
  -- if the file is a library and its name fits, the first refusal is that of `others`
  pub left_behind : file ≡ None → name ≡ false → first_of (option_map Object file ∷ (refusal when name) ∷ others) ≡ first_of others
  left_behind taken fits = (λ i. first_of (option_map Object (taken i) ∷ (refusal when fits i) ∷ others))

  -- if the file is a library and its name doesn't fit, the name is refused
  pub name_refused : file ≡ None → name ≡ true → first_of (option_map Object file ∷ (refusal when name) ∷ others) ≡ Some refusal
  name_refused taken unfit = (λ i. first_of (option_map Object (taken i) ∷ (refusal when unfit i) ∷ others))
