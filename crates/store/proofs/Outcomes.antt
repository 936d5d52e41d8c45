-- The answers of a change, and its effect on any disk, for each way in which it can end.
use Rattle.std.proofs.Common.{◌≡◌, ◌≢◌, ◌<◌, ◌≤◌, ◌+◌, ◌-◌, ℕ, nat_eq, nat_lt, false, List, length, Bool, true}
use Rattle.std.proofs.Common.{IsTrue, IsFalse, Some, None, inr, Ok, Err, refl, sym, ap, subst, ◌∙◌, arith}
use Rattle.std.specs.Prelude.{nat_le, if◌then◌else◌}
use Rattle.std.proofs.lemmas.Bool.{false≢true, eqb-true, eq-eqb, leb-false}
use Rattle.passes.specs.Calls.{AreCallsInRow}
use Rattle.passes.proofs.Rows.{in_row_at_most, in_row_exactly}
use Rattle.sector_disk.specs.Disk.{DiskFacts, HoldsNow, HasWholeSectors, AreCallsAtMost}
use Rattle.sector_disk.proofs.Moments.{no_calls}
use Rattle.extents.specs.declared.refusal.TakeRefusal.{TakeRefusal}
use Rattle.extents.specs.declared.refusal.TakeRefusal.TheVariants as take
use Rattle.roots.specs.declared.root.Root.{Root}
use Rattle.roots.specs.declared.version.Version.{Version}
use Rattle.states.specs.Cost.{catalogue_cost, cost, free}
use Rattle.states.specs.Limits.{most_libraries, last_generation}
use Rattle.states.specs.State.{State}
use Rattle.store.specs.declared.holds.HeldRow.{HeldRow}
use Rattle.store.specs.declared.placed_entry.PlacedEntry.{PlacedEntry}
use Rattle.store.specs.declared.refusal.StoreRefusal.{StoreRefusal}
use Rattle.store.specs.declared.refusal.StoreRefusal.TheVariants.{Device, Reopen, Full, Fragmented, TooMany, GenerationEnd, OutOfMemory}
use Rattle.store.specs.Changed.{Changed}
use Rattle.store.specs.Opened.{Opened, IsAtBy}
use Rattle.store.specs.Step.{refusal_of_change, refusal_of_put, refusal_of_new, refusal_of_upgrade, refusal_of_take}
use Rattle.store.specs.Step.{IsAnswer, IsExactAnswer, IsRefusalOfPutOver, IsRefusalOfPutNew}
use Rattle.store.proofs.Holding.{err_is}
use Rattle.store.specs.inside.Stored.{IsCounted}
use Rattle.store.proofs.Frees.{if_no, if_yes, new_as_put, change_refused, generation_of}

-- a put that replaces bytes may be refused for lack of room
pub take_put_over : (e : TakeRefusal) → IsRefusalOfPutOver (refusal_of_take e)
take_put_over take.Full = tt
take_put_over take.Fragmented = tt

pub take_put_new : (e : TakeRefusal) → IsRefusalOfPutNew (refusal_of_take e)
take_put_new take.Full = tt
take_put_new take.Fragmented = tt

pub take_no_device : (e : TakeRefusal) → refusal_of_take e ≢ Device
take_no_device take.Full is = cc is
take_no_device take.Fragmented is = cc is

pub take_no_reopen : (e : TakeRefusal) → refusal_of_take e ≢ Reopen
take_no_reopen take.Full is = cc is
take_no_reopen take.Fragmented is = cc is

-- if a store is unchanged, no call was made
pub still : {D : Type 0} (facts : D → DiskFacts) {old new : Opened D} {most : ℕ} → new ≡ old → AreCallsAtMost most (facts old.disk) (facts new.disk)
still facts {old = old} {most = most} same = subst (λ store. AreCallsAtMost most (facts old.disk) (facts store.disk)) (sym same)
    (record { some = no_calls (facts old.disk); time = omega arith })

-- The effect of a prepared change on any disk if a write or a sync failed.
module _ {D : Type 0} (facts : D → DiskFacts) {old new : Opened D} {n : ℕ} (usable : IsFalse old.failed) where
  pub answers_device : {T E : Type 0} {x : E} (e : StoreRefusal) → e ≡ Device → AreCallsInRow {T = T} n (facts old.disk) (facts new.disk) (Err x)
      → IsTrue new.failed → Changed facts Device Reopen old new n (λ e. e ≡ Device) (Err e)
  answers_device e device calls failed = record {
    reopen = (λ reopen. absurd (cc (device, err_is reopen)), λ failed. absurd (false≢true (sym usable ∙ failed)));
    device = λ _. (omega (arith, calls.err), failed);
    same = λ no_device. absurd (no_device device);
    usable = tt;
    refusals = device;
    all_calls = tt;
    calls = in_row_at_most calls (omega arith);
  }

  -- The effect of a prepared change on any disk if it is done.
  pub answers_carried_out : {T E : Type 0} {x : T} → AreCallsInRow {E = E} n (facts old.disk) (facts new.disk) (Ok x) → IsFalse new.failed
      → Changed facts Device Reopen old new n (λ e. e ≡ Device) (Ok tt)
  answers_carried_out calls still_usable = record {
    reopen = (λ reopen. absurd (cc reopen), λ failed. absurd (false≢true (sym usable ∙ failed)));
    device = tt;
    same = tt;
    usable = still_usable;
    refusals = tt;
    all_calls = in_row_exactly calls;
    calls = in_row_at_most calls (omega arith);
  }

-- OutOfMemory is an allowed answer, whether or not there is room
pub memory_wants : (a b : Bool) → IsAnswer (if a then Some Full else if b then Some Fragmented else None) (Err OutOfMemory)
memory_wants true b = inr refl
memory_wants false true = inr refl
memory_wants false false = inr refl

-- The answer of a store that is at a state to an upgrade at the last generation.
module _ {D : Type 0} (facts : D → DiskFacts) (holds : (disk : D) → IsTrue (facts disk).honest → HoldsNow (facts disk))
    (whole : (disk : D) → IsTrue (facts disk).honest → HasWholeSectors (facts disk)) {store view : Opened D} (is : view ≡ store) {version : Version} {s : State}
    (at : IsAtBy version facts store s) where
  generation : s.generation ≡ view.root.generation
  generation = generation_of facts holds whole at ∙ sym (ap (λ store. store.root.generation) is)

  pub upgrade_ends : (sectors : ℕ) → view.root.generation ≡ last_generation → IsExactAnswer (refusal_of_upgrade sectors s) (Err GenerationEnd)
  upgrade_ends sectors last = subst (λ first. IsExactAnswer first (Err GenerationEnd))
      (sym (if_yes (nat_eq s.generation last_generation) _ _ (λ isnt. false≢true (sym isnt ∙ eq-eqb s.generation last_generation (generation ∙ last))))) refl

-- The refusals that come before room is taken, computed from what is kept.
module _ {root : Root} {entries : List PlacedEntry} {held : List HeldRow} {layout : List Bool} {s : State} (counted : IsCounted root entries held layout s) where
  is_last : root.generation ≡ last_generation → nat_eq s.generation last_generation ≡ false → ⊥
  is_last last isnt = false≢true (sym isnt ∙ eq-eqb s.generation last_generation (counted.generation ∙ last))

  pub change_ends : root.generation ≡ last_generation → IsExactAnswer (refusal_of_change s) (Err GenerationEnd)
  change_ends last = subst (λ first. IsExactAnswer first (Err GenerationEnd)) (sym (change_refused s (counted.generation ∙ last))) refl

  pub change_accepted : root.generation ≢ last_generation → refusal_of_change s ≡ None
  change_accepted usable = if_no (nat_eq s.generation last_generation) _ _ (λ last. usable (sym counted.generation ∙ eqb-true s.generation last_generation last))

  module _ (sectors longest : ℕ) (bytes : List ℕ) where
    pub put_ends : root.generation ≡ last_generation → IsExactAnswer (refusal_of_put sectors longest s bytes) (Err GenerationEnd)
    put_ends last = subst (λ first. IsExactAnswer first (Err GenerationEnd)) (sym (if_yes (nat_eq s.generation last_generation) _ _ (is_last last))) refl

    pub new_many : most_libraries ≤ length entries → IsAnswer (refusal_of_new sectors longest s bytes) (Err TooMany)
    new_many many = subst (λ first. IsAnswer first (Err TooMany))
        (sym (if_yes (nat_le most_libraries (length s.libraries)) _ _ (λ few. omega (arith, leb-false most_libraries (length s.libraries) few, counted.count, many)))) refl

    pub new_ends : length entries < most_libraries → root.generation ≡ last_generation → IsAnswer (refusal_of_new sectors longest s bytes) (Err GenerationEnd)
    new_ends few last = subst (λ first. IsAnswer first (Err GenerationEnd))
        (sym (new_as_put sectors longest s bytes (omega (arith, few, counted.count)) ∙ if_yes (nat_eq s.generation last_generation) _ _ (is_last last))) refl

    pub new_no_memory : length entries < most_libraries → root.generation ≢ last_generation → IsAnswer (refusal_of_new sectors longest s bytes) (Err OutOfMemory)
    new_no_memory few usable = subst (λ first. IsAnswer first (Err OutOfMemory))
        (sym (new_as_put sectors longest s bytes (omega (arith, few, counted.count))
        ∙ if_no (nat_eq s.generation last_generation) _ _ (λ last. usable (sym counted.generation ∙ eqb-true s.generation last_generation last))))
        (memory_wants (nat_lt (free sectors s) (cost (length bytes) + catalogue_cost (length s.libraries))) (nat_lt longest (cost (length bytes) - 1)))
