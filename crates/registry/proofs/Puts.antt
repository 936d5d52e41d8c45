-- Lemmas about putting a library: the tests after those of its file and its name are tests of the store.
use Rattle.std.proofs.Common.{◌≡◌, ◌≢◌, ◌-◌, ℕ, true, false, List, length, Some, None, ap, ◌∙◌}
use Rattle.std.specs.Prelude.{All, not}
use Rattle.std.specs.Option.{option_map}
use Rattle.std.proofs.lemmas.List.{length-map}
use Rattle.std.proofs.lemmas.List.Elements.{All-push}
use Rattle.store.specs.Step.{first_refusal, refusal_of_new, refusal_of_put}
use Rattle.store.specs.Step as step
use Rattle.store.specs.declared.refusal.StoreRefusal.TheVariants as store_refusal
use Rattle.requests.specs.Library.{IsLibrary, library_refusal, name_of}
use Rattle.states.specs.State.{State}
use Rattle.states.specs.Cost.{free}
use Rattle.states.specs.Room.{Room, new_tests, put_tests}
use Rattle.requests.specs.Tests.{for_room, is_installed, room_in}
use Rattle.requests.specs.Request.{install, replace}
use Rattle.requests.specs.Phase.{Phase, table_of}
use Rattle.requests.specs.Step.{accepted, refusal_at}
use Rattle.requests.specs.declared.refusal.Refusal.TheVariants as refusal
use Rattle.requests.proofs.LibraryLists.{each_replaced}
use Rattle.requests.proofs.Sonames.{is_library}
use Rattle.registry.specs.Refusals.{refusal_of}
use Rattle.registry.proofs.RoomTests.{deviceless, left_behind, name_refused, same_first}

-- no test of a put refuses with S1
pub no_failed_put : (sectors longest : ℕ) (t : State) (bytes : List ℕ) → refusal_of_put sectors longest t bytes ≢ Some store_refusal.Device
no_failed_put sectors longest t bytes = deviceless (put_tests (step.room_at sectors longest t) 0 (length bytes))

pub no_failed_new : (sectors longest : ℕ) (t : State) (bytes : List ℕ) → refusal_of_new sectors longest t bytes ≢ Some store_refusal.Device
no_failed_new sectors longest t bytes = deviceless (new_tests (step.room_at sectors longest t) (length bytes))

module _ (p : Phase) (bytes : List ℕ) (taken : library_refusal bytes ≡ None) where
  -- the numbers that the tests for lack of room read if there are n libraries
  abbrev at_store : ℕ → Room
  at_store n = record { generation = p.state.generation; libraries = n; free = free (p.sectors - p.lone) p.state; longest = p.longest }

  -- if the file is a library with a new name, the first refusal of an install is the store's
  pub install_refusal : is_installed (table_of p) (name_of bytes) ≡ false
      → refusal_at p (install bytes) ≡ option_map refusal_of (refusal_of_new (p.sectors - p.lone) p.longest p.state bytes)
  install_refusal absent =
      left_behind (library_refusal bytes) refusal.AlreadyInstalled (is_installed (table_of p) (name_of bytes)) (for_room (new_tests (room_in (table_of p)) (length bytes))) taken absent
      ∙ same_first (new_tests (room_in (table_of p)) (length bytes))
      ∙ ap (λ n. option_map refusal_of (first_refusal (new_tests (at_store n) (length bytes)))) (length-map p.state.libraries (λ l. l.name))

  -- if the file is a library whose name is installed, the first refusal of a replacement is the store's
  pub replace_refusal : is_installed (table_of p) (name_of bytes) ≡ true
      → refusal_at p (replace bytes) ≡ option_map refusal_of (refusal_of_put (p.sectors - p.lone) p.longest p.state bytes)
  replace_refusal there =
      left_behind (library_refusal bytes) refusal.NotInstalled (not (is_installed (table_of p) (name_of bytes))) (for_room (put_tests (room_in (table_of p)) 0 (length bytes))) taken (ap not there)
      ∙ same_first (put_tests (room_in (table_of p)) 0 (length bytes))

  -- if the name of a library is installed, an install is refused with C2; if it isn't, a replacement is
  -- refused with C3
  pub is_there : is_installed (table_of p) (name_of bytes) ≡ true → refusal_at p (install bytes) ≡ Some refusal.AlreadyInstalled
  is_there there =
      name_refused (library_refusal bytes) refusal.AlreadyInstalled (is_installed (table_of p) (name_of bytes)) (for_room (new_tests (room_in (table_of p)) (length bytes))) taken there

  pub is_lacking : is_installed (table_of p) (name_of bytes) ≡ false → refusal_at p (replace bytes) ≡ Some refusal.NotInstalled
  is_lacking absent =
      name_refused (library_refusal bytes) refusal.NotInstalled (not (is_installed (table_of p) (name_of bytes))) (for_room (put_tests (room_in (table_of p)) 0 (length bytes))) taken (ap not absent)

-- after a library was installed or replaced, each file is still a library
pub each_installed : (s : State) (bytes : List ℕ) → library_refusal bytes ≡ None → All IsLibrary s.libraries → All IsLibrary (accepted s (install bytes)).libraries
each_installed s bytes taken each = All-push IsLibrary s.libraries (record { name = name_of bytes; bytes = bytes }) each (is_library bytes taken)

pub each_put : (s : State) (bytes : List ℕ) → library_refusal bytes ≡ None → All IsLibrary s.libraries → All IsLibrary (accepted s (replace bytes)).libraries
each_put s bytes taken each = each_replaced (name_of bytes) bytes s.libraries (is_library bytes taken) each
