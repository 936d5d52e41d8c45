-- Lemmas about what an opening finds, and about sectors that hold no state of a registry.
use Rattle.std.proofs.Common.{◌≡◌, ◌≢◌, ◌<◌, ◌⊎◌, inl, inr, ⊎_elim, List, [], length, All, IsTrue, IsFalse, Result, Ok, Err, IfOk, refl, sym, subst, ◌∙◌, arith}
use Rattle.std.specs.Prelude.{IfErr, MatchResult}
use Rattle.std.proofs.lemmas.List.Elements.{All-nil}
use Rattle.std.proofs.lemmas.Bool.{false≢true}
use Rattle.std.proofs.lemmas.Result.{IfOk-weaker}
use Rattle.sector_disk.specs.Disk.{Sector, DiskFacts, Mixture, HoldsNow, LeavesOnly, MayAddSync, AreCalls, AreCallsExactly}
use Rattle.sector_disk.proofs.Moments.{goes_on, left_now, more_calls, weaken}
use Rattle.roots.specs.declared.version.Version.{Version}
use Rattle.roots.specs.declared.version.Version.TheVariants.{One, Two}
use Rattle.store.specs.Stands as sectors
use Rattle.store.specs.AnyDisk.{OpensOnAnyDisk}
use Rattle.store.specs.Makes.{Makes}
use Rattle.store.specs.Opened as opened
use Rattle.store.specs.Opening.{HasRootMagic, HasCurrentRoot, IsRefusalOfOpen, RefusesOpen, RefusesLook}
use Rattle.store.specs.Opens.{Opens}
use Rattle.states.specs.Geometry.{IsGeometry}
use Rattle.store.specs.declared.refusal.StoreRefusal.{StoreRefusal}
use Rattle.store.specs.declared.refusal.StoreRefusal.TheVariants as refusal
use Rattle.store.proofs.StandsLemmas as sectors_lemmas
use Rattle.store.proofs.Openings.{current_magic, of_version, refuses_fewer, refuses_fewer_open}
use Rattle.requests.specs.Library.{IsLibrary}
use Rattle.states.specs.State.{State, empty_state}
use Rattle.registry.specs.Opened.{IsAt}
use Rattle.registry.specs.Stands.{Stands, StandsOld, StandsEither}
use Rattle.registry.specs.inside.Reading.{IsReadRefusal}

-- a stop that leaves an empty store leaves an empty registry
pub either_empty : {old new : DiskFacts} → LeavesOnly old new (λ m. Mixture old m ⊎ sectors.Stands m empty_state) → LeavesOnly old new (λ m. Mixture old m ⊎ Stands m empty_state)
either_empty {old = old} leaves = weaken (λ m. Mixture old m ⊎ sectors.Stands m empty_state) (λ m. Mixture old m ⊎ Stands m empty_state)
    (λ m. ⊎_elim (λ mixture. inl mixture) (λ stands. inr (record { stored = stands; libraries = All-nil IsLibrary }))) leaves

-- a store that was made empty is an empty registry
pub made_empty : {D : Type 0} (facts : D → DiskFacts) (disk : D) (making : Result (opened.Opened D) (StoreRefusal × D))
    → Makes sectors.Stands facts (opened.IsAt facts) disk making → Makes Stands facts (IsAt facts) disk making
made_empty facts disk making store = record {
  any_moment = λ honest. either_empty (store.any_moment honest);
  ok = λ honest. IfOk-weaker making (λ made. opened.IsAt facts made empty_state) (λ made. IsAt facts made empty_state)
      (λ made at. record { stored = at; libraries = All-nil IsLibrary }) (store.ok honest);
  unformatted = store.unformatted;
  refused = store.refused;
  left_alone = store.left_alone;
  now = store.now;
  log = store.log;
}

-- if two calls leave only what a stop could leave before, so do both together
pub leaves_then : {old mid new : DiskFacts} → LeavesOnly old mid (Mixture old) → LeavesOnly mid new (Mixture mid) → LeavesOnly old new (Mixture old)
leaves_then {old = old} {mid = mid} first second = goes_on (Mixture old) first (weaken (Mixture mid) (Mixture old) (left_now (Mixture old) first) second)

-- if two facts imply a third, and both hold for a result, so does the third
pub ok_both : {A B : Type 0} (P Q R : A → Type 0) (result : Result A B) → ((a : A) → P a → Q a → R a) → IfOk result P → IfOk result Q → IfOk result R
ok_both P Q R (Ok a) make p q = make a p q
ok_both P Q R (Err e) make p q = tt

pub err_both : {A B : Type 0} (P Q R : B → Type 0) (result : Result A B) → ((e : B) → P e → Q e → R e) → IfErr result P → IfErr result Q → IfErr result R
err_both P Q R (Ok a) make p q = tt
err_both P Q R (Err e) make p q = make e p q

-- a fact about the disk that is handed back holds for each refusal other than S1
pub of_refused : {D : Type 0} (P : D → Type 0) (result : Result (opened.Opened D) (StoreRefusal × D)) → P (opened.disk_after result) → IfErr result (λ e. e.0 ≢ refusal.Device → P e.1)
of_refused P (Ok store) holds = tt
of_refused P (Err e) holds = λ other. holds

-- if P holds for an Ok result and Q for a refusal, the fact about the result that combines both holds
pub either_result : {A B : Type 0} (P : A → Type 0) (Q : B → Type 0) (result : Result A B) → IfOk result P → IfErr result Q → MatchResult result P Q
either_result P Q (Ok a) ok err = ok
either_result P Q (Err e) ok err = err

module _ {D : Type 0} (facts : D → DiskFacts) (old new : opened.Opened D) where
  pub read_refuses : (e : StoreRefusal) → IsReadRefusal facts old new e → IsFalse old.failed → (e ≡ refusal.Device) ⊎ (e ≡ refusal.Damaged) ⊎ (e ≡ refusal.OutOfMemory)
  read_refuses refusal.Device is usable = inl refl
  read_refuses refusal.Damaged is usable = inr (inl refl)
  read_refuses refusal.OutOfMemory is usable = inr (inr refl)
  read_refuses refusal.Reopen is usable = absurd (false≢true (sym usable ∙ is))
  read_refuses refusal.NotFormatted is usable = absurd is
  read_refuses refusal.AlreadyFormatted is usable = absurd is
  read_refuses refusal.BadGeometry is usable = absurd is
  read_refuses refusal.Full is usable = absurd is
  read_refuses refusal.Fragmented is usable = absurd is
  read_refuses refusal.TooMany is usable = absurd is
  read_refuses refusal.GenerationEnd is usable = absurd is
  read_refuses refusal.OldFormat is usable = absurd is

  -- if a read is refused with S1, a call failed during it
  pub device_rose : (e : StoreRefusal) → IsReadRefusal facts old new e → e ≡ refusal.Device → (facts old.disk).failures < (facts new.disk).failures
  device_rose e is same = subst (IsReadRefusal facts old new) same is

-- if each file of a state is a library, the only refusals left are S1 and S11
pub libraries_refuse : (e : StoreRefusal) → (e ≡ refusal.Device) ⊎ (e ≡ refusal.Damaged) ⊎ (e ≡ refusal.OutOfMemory) → (e ≡ refusal.Damaged → ⊥) → (e ≡ refusal.Device) ⊎ (e ≡ refusal.OutOfMemory)
libraries_refuse e which intact = ⊎_elim (λ is. inl is) (λ rest. ⊎_elim (λ is. absurd (intact is)) (λ is. inr is) rest) which

-- If a file of the state that sectors hold isn't a library, the sectors hold no state of a registry,
-- neither by the new rules nor by the old ones.
module _ (m : List Sector) (version : Version) (t : State) (stands : sectors.StandsAs version m t) (none : All IsLibrary t.libraries → ⊥) where
  pub no_state : (other : Version) (s : State) → sectors.StandsAs other m s → All IsLibrary s.libraries → ⊥
  no_state other s is libraries = none (subst (λ x. All IsLibrary x.libraries) (sectors_lemmas.one_state m other version s t is stands) libraries)

  pub no_current : (s : State) → Stands m s → ⊥
  no_current s is = no_state Two s is.stored is.libraries

  pub no_old : (s : State) → StandsOld m s → ⊥
  no_old s is = no_state One s is.stored is.libraries

  pub no_either : (s : State) → StandsEither m s → ⊥
  no_either s = ⊎_elim (no_current s) (no_old s)

module _ (m : List Sector) (version : Version) (t : State) (stands : sectors.StandsAs version m t) where
  has_magic : HasRootMagic m
  has_magic = current_magic m stands.0 stands.2.intact.current

  has_root : HasCurrentRoot m
  has_root = (stands.0, stands.2.intact.current, stands.2.intact.size)

  -- the refusals that are possible after a look has read the store are refusals of a look
  pub refuses_seen : (e : StoreRefusal) → (e ≡ refusal.Device) ⊎ (e ≡ refusal.Damaged) ⊎ (e ≡ refusal.OutOfMemory) → IsGeometry (length m)
      → (e ≡ refusal.Damaged → All IsLibrary t.libraries → ⊥) → RefusesLook StandsEither m e
  refuses_seen e which geometry damaged = record {
    may = ⊎_elim (λ is. rw is geometry) (λ rest. ⊎_elim (λ is. rw is geometry) (λ is. rw is geometry) rest) which;
    unformatted = λ is. ⊎_elim (λ a. absurd (cc (a, is))) (λ rest. ⊎_elim (λ a. absurd (cc (a, is))) (λ a. absurd (cc (a, is))) rest) which;
    formatted = λ is. has_magic;
    damaged = λ is. no_either m version t stands (damaged is);
    memory = λ is. has_root;
  }

-- the refusals that are possible after the store was opened are refusals of an opening
pub refuses_files : (m : List Sector) (t : State) (e : StoreRefusal) → sectors.Stands m t → (e ≡ refusal.Device) ⊎ (e ≡ refusal.Damaged)
    ⊎ (e ≡ refusal.OutOfMemory) → IsGeometry (length m) → (e ≡ refusal.Damaged → All IsLibrary t.libraries → ⊥) → RefusesOpen Stands m e
refuses_files m t e stands which geometry damaged = record {
  why = inl (refuses_fewer Stands StandsEither m (λ s here. inl here) e (refuses_seen m Two t stands e which geometry damaged));
  only_old = λ fits old. absurd (of_version m stands.0 stands.2.intact.current stands.2.of_version old);
}

-- the refusals of opening the store are refusals of opening the registry
pub refuses_store : (m : List Sector) (e : StoreRefusal) → RefusesOpen sectors.Stands m e → RefusesOpen Stands m e
refuses_store m = refuses_fewer_open Stands sectors.Stands m (λ s stands. stands.stored)

-- the refusals of a look at the store are refusals of a look at the registry
pub refuses_look : (m : List Sector) (e : StoreRefusal) → RefusesLook sectors.StandsEither m e → RefusesLook StandsEither m e
refuses_look m = refuses_fewer StandsEither sectors.StandsEither m (λ s. ⊎_elim (λ stands. inl stands.stored) (λ stands. inr stands.stored))

-- A registry is opened, and each of its files is tested.
module _ {D : Type 0} (facts : D → DiskFacts) (disk : D) where
  -- If opening the store was refused, opening the registry is refused.
  pub opens_refused : (e : StoreRefusal × D) → Opens sectors.Stands facts (opened.IsAt facts) disk (Err e) → Opens Stands facts (IsAt facts) disk (Err e)
  opens_refused e store = record {
    any_moment = store.any_moment;
    now = store.now;
    log = store.log;
    ok = λ honest. tt;
    stands = λ honest s stands. store.stands honest s stands.stored;
    refused = λ honest. refuses_store (facts disk).now e.0 (store.refused honest);
  }

  -- If the store was opened, its files are admitted or refused.
  module _ (store : opened.Opened D) (is : Opens sectors.Stands facts (opened.IsAt facts) disk (Ok store)) (any : OpensOnAnyDisk facts disk (Ok store))
      (result : Result (opened.Opened D) (StoreRefusal × D)) where
    still : IsTrue (facts disk).honest → IsTrue (facts store.disk).honest
    still honest = subst IsTrue (sym any.ends.calls.honest) honest

    module _ (holds : IsTrue (facts disk).honest → HoldsNow (facts disk))
        (any_moment : IsTrue (facts store.disk).honest → LeavesOnly (facts store.disk) (facts (opened.disk_after result)) (Mixture (facts store.disk)))
        (now : IsTrue (facts store.disk).honest → (facts (opened.disk_after result)).now ≡ (facts store.disk).now)
        (log : IsTrue (facts store.disk).honest → (facts (opened.disk_after result)).log ≡ (facts store.disk).log)
        (ok : (s : State) → opened.IsAt facts store s → IfOk result (λ registry. IsAt facts registry s))
        (damaged : (s : State) → opened.IsAt facts store s → IfErr result (λ e. e.0 ≡ refusal.Damaged → All IsLibrary s.libraries → ⊥))
        (refusals : IfErr result (λ e. (e.0 ≡ refusal.Device) ⊎ (e.0 ≡ refusal.Damaged) ⊎ (e.0 ≡ refusal.OutOfMemory))) where
      pub opens_admitted : Opens Stands facts (IsAt facts) disk result
      opens_admitted = record {
        any_moment = λ honest. leaves_then (is.any_moment honest) (any_moment (still honest));
        now = λ honest. now (still honest) ∙ is.now honest;
        log = λ honest. subst (MayAddSync (facts disk).log) (sym (log (still honest))) (is.log honest);
        ok = λ honest.
            let found = is.ok honest in
            IfOk-weaker result (λ registry. IsAt facts registry found.0)
            (λ registry. (s : State) × Stands (facts disk).now s × IsAt facts registry s × ((other : State) → Stands (facts disk).now other → other ≡ s))
            (λ registry at.
            let stands : Stands (facts disk).now found.0 = record { stored = found.1; libraries = at.libraries } in
            (found.0, stands, at, λ other others. found.3 other others.stored))
            (ok found.0 found.2);
        stands = λ honest s stands.
            let at = is.stands honest s stands.stored in
            either_result _ _ result (ok s at) (err_both _ _ _ result (λ e which isnt. libraries_refuse e.0 which (λ same. isnt same stands.libraries)) refusals (damaged s at));
        refused = λ honest.
            let found = is.ok honest in
            let geometry : IsGeometry (length (facts disk).now) = subst IsGeometry (sym (holds honest).size) any.ends.geometry in
            err_both _ _ _ result (λ e which isnt. refuses_files (facts disk).now found.0 e.0 found.1 which geometry isnt) refusals (damaged found.0 found.2);
      }

    -- The following holds on any disk.
    module _ (usable : IfOk result (λ registry. IsFalse registry.failed))
        (unheld : IfOk result (λ registry. registry.held ≡ []))
        (refusals : IfErr result (λ e. (e.0 ≡ refusal.Device) ⊎ (e.0 ≡ refusal.Damaged) ⊎ (e.0 ≡ refusal.OutOfMemory)))
        (device : IfErr result (λ e. e.0 ≡ refusal.Device → (facts store.disk).failures < (facts e.1).failures))
        (calls : AreCalls (facts store.disk) (facts (opened.disk_after result))) where
      pub opens_on_any_disk : OpensOnAnyDisk facts disk result
      opens_on_any_disk = record {
        ends = record {
          geometry = IfOk-weaker result _ _ (λ registry usable. any.ends.geometry) usable;
          usable = usable;
          unheld = unheld;
          refusals = err_both _ _ (λ e. IsRefusalOfOpen (facts disk).sectors e.0) result
              (λ e which same. ⊎_elim (λ a. rw a any.ends.geometry) (λ rest. ⊎_elim (λ a. rw a any.ends.geometry) (λ a. rw a any.ends.geometry) rest) which) refusals refusals;
          device = err_both _ _ (λ e. e.0 ≡ refusal.Device → (facts disk).failures < (facts e.1).failures) result (λ e rose same a. omega (arith, rose a, any.ends.calls.failures)) device device;
          untouched = err_both _ _ (λ e. e.0 ≡ refusal.BadGeometry → e.1 ≡ disk) result
              (λ e which same a. ⊎_elim (λ b. absurd (cc (a, b))) (λ rest. ⊎_elim (λ b. absurd (cc (a, b))) (λ b. absurd (cc (a, b))) rest) which) refusals refusals;
          calls = more_calls any.ends.calls calls;
        };
        old_calls = err_both _ _ (λ e. e.0 ≡ refusal.OldFormat → AreCallsExactly 3 (facts disk) (facts e.1)) result
            (λ e which same a. ⊎_elim (λ b. absurd (cc (a, b))) (λ rest. ⊎_elim (λ b. absurd (cc (a, b))) (λ b. absurd (cc (a, b))) rest) which) refusals refusals;
      }
