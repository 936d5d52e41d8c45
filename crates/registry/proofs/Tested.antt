-- The tests of a command, as they follow from the result of each test.
use Rattle.std.proofs.Common.{◌≡◌, ◌≢◌, ℕ, Bool, true, false, List, ◌∷◌, length, Option, Some, ap}
use Rattle.std.specs.Prelude.{not, nat_lt}
use Rattle.std.specs.List.{list_any}
use Rattle.std.specs.Option.{option_map}
use Rattle.elf_file.specs.FirstOf.{◌when◌, first_of}
use Rattle.store.specs.Step.{refusal_of_change}
use Rattle.store.specs.declared.refusal.StoreRefusal.TheVariants.{Device}
use Rattle.states.specs.Limits.{most_preloads}
use Rattle.states.specs.Room.{change_tests}
use Rattle.states.specs.State.{State, has_name}
use Rattle.requests.specs.Phase.{Phase, table_of}
use Rattle.requests.specs.Request.{remove, set_preloads}
use Rattle.requests.specs.Table.{Table}
use Rattle.requests.specs.Tests.{first_refusal, for_room, is_installed, has_repeat}
use Rattle.requests.specs.declared.refusal.Refusal.{Refusal}
use Rattle.requests.specs.declared.refusal.Refusal.TheVariants.{NotInstalled, InPreloads, RepeatedPreload, TooManyPreloads}
use Rattle.registry.specs.Refusals.{refusal_of}
use Rattle.registry.proofs.RoomTests.{deviceless, same_first}

module _ (t : Table) (name : List ℕ) where
  abbrev remove_by : Bool → Bool → Option Refusal
  remove_by installed preload = first_of ((NotInstalled when not installed) ∷ (InPreloads when preload) ∷ for_room (change_tests t.generation))

  pub remove_absent : is_installed t name ≡ false → first_refusal t (remove name) ≡ Some NotInstalled
  remove_absent absent = ap (λ b. remove_by b (has_name t.preloads name)) absent

  pub remove_preload : is_installed t name ≡ true → has_name t.preloads name ≡ true → first_refusal t (remove name) ≡ Some InPreloads
  remove_preload installed preload = (λ i. remove_by (installed i) (preload i))

  pub remove_tested : is_installed t name ≡ true → has_name t.preloads name ≡ false → first_refusal t (remove name) ≡ first_of (for_room (change_tests t.generation))
  remove_tested installed free = (λ i. remove_by (installed i) (free i))

module _ (t : Table) (names : List (List ℕ)) where
  abbrev preloads_by : Bool → Bool → Bool → Option Refusal
  preloads_by many repeat lacking = first_of ((TooManyPreloads when many) ∷ (RepeatedPreload when repeat) ∷ (NotInstalled when lacking) ∷ for_room (change_tests t.generation))

  abbrev lacks : Bool
  lacks = list_any (λ name. not (is_installed t name)) names

  pub preloads_lacking : nat_lt most_preloads (length names) ≡ false → has_repeat names ≡ false
      → list_any (λ name. not (is_installed t name)) names ≡ true → first_refusal t (set_preloads names) ≡ Some NotInstalled
  preloads_lacking few once lacking = (λ i. preloads_by (few i) (once i) (lacking i))

  pub preloads_many : nat_lt most_preloads (length names) ≡ true → first_refusal t (set_preloads names) ≡ Some TooManyPreloads
  preloads_many many = ap (λ b. preloads_by b (has_repeat names) (list_any (λ name. not (is_installed t name)) names)) many

  pub preloads_repeated : nat_lt most_preloads (length names) ≡ false → has_repeat names ≡ true → first_refusal t (set_preloads names) ≡ Some RepeatedPreload
  preloads_repeated few repeat = (λ i. preloads_by (few i) (repeat i) (list_any (λ name. not (is_installed t name)) names))

  pub preloads_tested : nat_lt most_preloads (length names) ≡ false → has_repeat names ≡ false → list_any (λ name. not (is_installed t name)) names ≡ false
      → first_refusal t (set_preloads names) ≡ first_of (for_room (change_tests t.generation))
  preloads_tested few once there = (λ i. preloads_by (few i) (once i) (there i))

-- the test of the generation is the store's test of it
pub last_change : (p : Phase) → first_of (for_room (change_tests (table_of p).generation)) ≡ option_map refusal_of (refusal_of_change p.state)
last_change p = same_first (change_tests p.state.generation)

-- the test of the generation doesn't refuse with S1
pub change_deviceless : (s : State) → refusal_of_change s ≢ Some Device
change_deviceless s = deviceless (change_tests s.generation)
