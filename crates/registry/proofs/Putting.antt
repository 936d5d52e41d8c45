-- What putting a library does to a registry on a disk, as it follows from the store's answer.
use Rattle.std.proofs.Common.{◌≡◌, ◌↔◌, ◌<◌, ◌-◌, ◌⊎◌, ℕ, true, false, List, ◌∷◌, length, get_or, Option, Some, None, Result, IsFalse, refl, sym, ap, subst, ◌∙◌}
use Rattle.std.specs.Prelude.{is_some, IfSome, OnOk}
use Rattle.std.specs.Option.{option_map}
use Rattle.std.proofs.lemmas.Bool.{false≢true}
use Rattle.elf_file.specs.FirstOf.{first_of}
use Rattle.hash_check.specs.FileRefusal.{ReadNeedsMemory}
use Rattle.hash_check.specs.declared.file_refusal.FileRefusal.{FileRefusal}
use Rattle.sector_disk.specs.Disk.{DiskFacts, LeavesOnly}
use Rattle.states.specs.Changes.{with_new, with_bytes}
use Rattle.store.specs.Changed.{Changed}
use Rattle.store.specs.Holds.{lone_sectors, room_of}
use Rattle.store.specs.Opened.{Opened, IsAt}
use Rattle.store.specs.Stands as sectors
use Rattle.store.specs.Stands.{no_library}
use Rattle.store.specs.Step.{longest_unused, refusal_of_new, refusal_of_put, IsAnswer, IsExactAnswer, IsRefusalOfPutOver, IsRefusalOfPutNew}
use Rattle.store.specs.declared.refusal.StoreRefusal.{StoreRefusal}
use Rattle.store.specs.declared.refusal.StoreRefusal.TheVariants as store_refusal
use Rattle.requests.specs.Library.{library_refusal, name_of}
use Rattle.requests.specs.Reading.{IsLibraryRefusal}
use Rattle.states.specs.State.{State, names_of, has_name}
use Rattle.requests.specs.Request.{Request, install, replace}
use Rattle.requests.specs.Phase.{Phase}
use Rattle.requests.specs.Step.{Step, TakesMemory, answer_of, refusal_at}
use Rattle.requests.specs.declared.refusal.Refusal.{Refusal}
use Rattle.requests.specs.declared.refusal.Refusal.TheVariants as refusal
use Rattle.requests.specs.declared.reply.Reply.TheVariants.{Refused}
use Rattle.registry.specs.Phase.{phase_of}
use Rattle.registry.specs.Untested.{AppliesUntested}
use Rattle.registry.specs.Refusals.{refusal_of}
use Rattle.registry.specs.inside.Reading.{in_words}
use Rattle.registry.proofs.Applying.{untouched, leads_same, exact_answer, store_changed}
use Rattle.registry.proofs.Names.{name_stands, name_nowhere}
use Rattle.registry.proofs.Puts.{install_refusal, replace_refusal, is_there, is_lacking, no_failed_new, no_failed_put}

-- a name is installed exactly if it has a position
pub installed : (s : State) (name : List ℕ) (position : Option ℕ) → ((i : ℕ) → (position ≡ Some i) ↔ ((i < length s.libraries) × ((get_or s.libraries i no_library).name ≡ name)))
    → has_name (names_of s.libraries) name ≡ is_some position
installed s name None at = name_nowhere s name (λ i lt is. let no : ◌≡◌ {A = Option ℕ} None (Some i) = (at i).1 (lt, is) in cc)
installed s name (Some i) at = let both = (at i).0 refl in name_stands s name i both.0 both.1

-- if there is a position with property P, some number has property P
pub has_position : {P : ℕ → Type 0} (position : Option ℕ) → is_some position ≡ true → IfSome position P → (i : ℕ) × P i
has_position None h some = absurd (false≢true h)
has_position (Some i) h some = (i, some)

-- if the test of the file refuses, its refusal is the first one
pub file_first : (o : Option FileRefusal) (r : FileRefusal) (others : List (Option Refusal)) → o ≡ Some r → first_of (option_map refusal.Object o ∷ others) ≡ Some (refusal.Object r)
file_first None r others is = cc
file_first (Some q) r others is = let same : q ≡ r = cc in ap (λ f. Some (refusal.Object f)) same

-- a put is refused if its file is no library, or if memory to admit the file is refused
pub put_step : (p : Phase) (q : Request) (bytes : List ℕ) → IsFalse p.failed → ((r : FileRefusal) → library_refusal bytes ≡ Some r → refusal_at p q ≡ Some (refusal.Object r))
    → (ReadNeedsMemory bytes → TakesMemory q) → (e : Refusal) → IsLibraryRefusal bytes e → Step p q (Refused e) p
put_step p q bytes usable first memory (refusal.Object r) is = (usable, first r is, leads_same p)
put_step p q bytes usable first memory refusal.OutOfMemory is = (usable, memory is, leads_same p)
put_step p q bytes usable first memory refusal.AlreadyInstalled is = absurd is
put_step p q bytes usable first memory refusal.NotInstalled is = absurd is
put_step p q bytes usable first memory refusal.InPreloads is = absurd is
put_step p q bytes usable first memory refusal.RepeatedPreload is = absurd is
put_step p q bytes usable first memory refusal.TooManyPreloads is = absurd is
put_step p q bytes usable first memory refusal.NoSlot is = absurd is
put_step p q bytes usable first memory refusal.NoSuchBinder is = absurd is
put_step p q bytes usable first memory (refusal.Bind r) is = absurd is
put_step p q bytes usable first memory refusal.Device is = absurd is
put_step p q bytes usable first memory refusal.Reopen is = absurd is
put_step p q bytes usable first memory refusal.Damaged is = absurd is
put_step p q bytes usable first memory refusal.Full is = absurd is
put_step p q bytes usable first memory refusal.Fragmented is = absurd is
put_step p q bytes usable first memory refusal.TooMany is = absurd is
put_step p q bytes usable first memory refusal.GenerationEnd is = absurd is

pub over_is_new : (e : StoreRefusal) → IsRefusalOfPutOver e → IsRefusalOfPutNew e
over_is_new store_refusal.Device is = is
over_is_new store_refusal.Reopen is = is
over_is_new store_refusal.Full is = is
over_is_new store_refusal.Fragmented is = is
over_is_new store_refusal.GenerationEnd is = is
over_is_new store_refusal.TooMany is = absurd is
over_is_new store_refusal.OutOfMemory is = absurd is
over_is_new store_refusal.NotFormatted is = absurd is
over_is_new store_refusal.AlreadyFormatted is = absurd is
over_is_new store_refusal.Damaged is = absurd is
over_is_new store_refusal.BadGeometry is = absurd is
over_is_new store_refusal.OldFormat is = absurd is

module _ {D : Type 0} (facts : D → DiskFacts) (old : Opened D) (s : State) (at : IsAt facts old s) (bytes : List ℕ) where
  -- if the file is no library, or memory to admit it is refused, the put is refused, and nothing changes
  pub install_no_library : (e : Refusal) → IsLibraryRefusal bytes e → AppliesUntested facts old old s (install bytes) (Refused e)
  install_no_library e is =
      untouched facts old s at (install bytes) (Refused e)
      (put_step (phase_of facts old s) (install bytes) bytes at.usable (λ r. file_first (library_refusal bytes) r _) (λ memory. memory) e is)

  pub replace_no_library : (e : Refusal) → IsLibraryRefusal bytes e → AppliesUntested facts old old s (replace bytes) (Refused e)
  replace_no_library e is =
      untouched facts old s at (replace bytes) (Refused e)
      (put_step (phase_of facts old s) (replace bytes) bytes at.usable (λ r. file_first (library_refusal bytes) r _) (λ memory. memory) e is)

  module _ (taken : library_refusal bytes ≡ None) (name : List ℕ) (named : name ≡ name_of bytes) where
    -- if the name is already installed, an install is refused with C2; if it isn't installed, a
    -- replacement is refused with C3
    pub install_there : has_name (names_of s.libraries) name ≡ true → AppliesUntested facts old old s (install bytes) (Refused refusal.AlreadyInstalled)
    install_there there = untouched facts old s at (install bytes) (Refused refusal.AlreadyInstalled)
        (at.usable, is_there (phase_of facts old s) bytes taken (subst (λ n. has_name (names_of s.libraries) n ≡ true) named there), leads_same (phase_of facts old s))

    pub replace_lacking : has_name (names_of s.libraries) name ≡ false → AppliesUntested facts old old s (replace bytes) (Refused refusal.NotInstalled)
    replace_lacking absent = untouched facts old s at (replace bytes) (Refused refusal.NotInstalled)
        (at.usable, is_lacking (phase_of facts old s) bytes taken (subst (λ n. has_name (names_of s.libraries) n ≡ false) named absent), leads_same (phase_of facts old s))

    module _ (new : Opened D) (root : old.root.sectors ≡ (facts old.disk).sectors) (memory : ReadNeedsMemory bytes) {calls : ℕ} (answer : Result (Unit {0}) StoreRefusal) where
      -- if the name isn't installed, the library is installed after the others, or the store refuses
      pub installed_as : has_name (names_of s.libraries) name ≡ false
          → LeavesOnly (facts old.disk) (facts new.disk) (λ m. sectors.Stands m s ⊎ sectors.Stands m (with_new name bytes s))
          → IsAnswer (refusal_of_new (room_of old) (longest_unused old) s bytes) answer → Changed facts store_refusal.Device store_refusal.Reopen old new calls IsRefusalOfPutNew answer
          → OnOk answer (IsAt facts new (with_new name bytes s)) → AppliesUntested facts old new s (install bytes) (answer_of (in_words answer))
      installed_as absent leaves is changed after =
          store_changed facts old new s at (install bytes) tt (refusal_of_new (room_of old) (longest_unused old) s bytes)
          (install_refusal (phase_of facts old s) bytes taken (subst (λ n. has_name (names_of s.libraries) n ≡ false) named absent)
          ∙ ap (λ n. option_map refusal_of (refusal_of_new (n - length (lone_sectors old.held)) (longest_unused old) s bytes)) (sym root))
          (no_failed_new (room_of old) (longest_unused old) s bytes) (with_new name bytes s) (ap (λ n. with_new n bytes s) named)
          leaves answer is changed (λ r may. may) (λ lacks. memory) after

      -- if the name is installed, the library with this name is replaced, or the store refuses
      pub replaced_as : has_name (names_of s.libraries) name ≡ true
          → LeavesOnly (facts old.disk) (facts new.disk) (λ m. sectors.Stands m s ⊎ sectors.Stands m (with_bytes name bytes s))
          → IsExactAnswer (refusal_of_put (room_of old) (longest_unused old) s bytes) answer → Changed facts store_refusal.Device store_refusal.Reopen old new calls IsRefusalOfPutOver answer
          → OnOk answer (IsAt facts new (with_bytes name bytes s)) → AppliesUntested facts old new s (replace bytes) (answer_of (in_words answer))
      replaced_as there leaves is changed after =
          let first = refusal_of_put (room_of old) (longest_unused old) s bytes in
          store_changed facts old new s at (replace bytes) tt first
          (replace_refusal (phase_of facts old s) bytes taken (subst (λ n. has_name (names_of s.libraries) n ≡ true) named there)
          ∙ ap (λ n. option_map refusal_of (refusal_of_put (n - length (lone_sectors old.held)) (longest_unused old) s bytes)) (sym root))
          (no_failed_put (room_of old) (longest_unused old) s bytes) (with_bytes name bytes s) (ap (λ n. with_bytes n bytes s) named)
          leaves answer (exact_answer first answer is) changed over_is_new (λ lacks. memory) after
