-- The result of an upgrade, derived from what `look` found.
use Rattle.std.proofs.Common.{◌≡◌, ◌⊎◌, inl, inr, ⊎_elim, ◌+◌, List, Option, Some, None, Result, Ok, Err, IfOk, length, ap, sym, subst, ◌∙◌, arith}
use Rattle.sector_disk.specs.Disk.{Sector, DiskFacts, HoldsNow, Mixture, LeavesOnly, AreCallsExactly}
use Rattle.sector_disk.proofs.Moments.{goes_on, weaken, exactly_sum}
use Rattle.roots.specs.Root.{version_of}
use Rattle.states.specs.Cost.{catalogues_for}
use Rattle.store.specs.declared.look.Look.{Look}
use Rattle.store.specs.declared.look.Look.TheVariants.{Current, Old}
use Rattle.store.specs.declared.refusal.StoreRefusal.{StoreRefusal}
use Rattle.store.specs.declared.refusal.StoreRefusal.TheVariants.{Device, OutOfMemory}
use Rattle.store.proofs.Relistings.{none_in}
use Rattle.store.specs.Looked.{seen, IsSeenAt, IsSeenOldAt}
use Rattle.store.specs.Opened.{Opened, IsAt, IsOldAt}
use Rattle.store.specs.Stands.{Stands, StandsOld}
use Rattle.store.specs.Step.{IsExactAnswer, IsUpgradeAnswer}
use Rattle.extents.specs.Used.{layout_of}
use Rattle.roots.specs.declared.version.Version.TheVariants.{One}
use Rattle.store.specs.Stands.{StandsBy, catalogues_of, used}
use Rattle.store.specs.Taken.{AreTaken, IsRelisted}
use Rattle.store.specs.Upgraded.{upgraded, IsRelistedFrom}
use Rattle.states.specs.State.{State}

-- An answer of the commit is an answer of the upgrade.
pub as_committed : (first : Option StoreRefusal) (answer : Result (Unit {0}) StoreRefusal) → IsExactAnswer first answer → IsUpgradeAnswer first answer
as_committed None (Ok done) exact = tt
as_committed None (Err refusal) exact = inl exact
as_committed (Some first) (Ok done) exact = exact
as_committed (Some first) (Err refusal) exact = inl exact

-- A refusal of `look`, by the device or for lack of memory, is an answer of the upgrade.
pub as_looked : (first : Option StoreRefusal) (refusal : StoreRefusal) → (refusal ≡ Device) ⊎ (refusal ≡ OutOfMemory) → IsUpgradeAnswer first (Err refusal)
as_looked None refusal which = which
as_looked (Some first) refusal which = inr which

module _ {D : Type 0} (facts : D → DiskFacts) (look : Look D) (store : Opened D) where
  -- If `look` found a store of version 2, it didn't find one of version 1.
  pub seen_current : look ≡ Current store → (s : State) → IsSeenOldAt facts look s → ⊥
  seen_current is s at = subst (λ l. IsSeenOldAt facts l s) is at

  pub current_at : look ≡ Current store → (s : State) → IsSeenAt facts look s → IsAt facts store s
  current_at is s at = subst (λ l. IsSeenAt facts l s) is at

  -- If `look` found a store of version 1, it didn't find one of version 2.
  pub seen_old : look ≡ Old store → (s : State) → IsSeenAt facts look s → ⊥
  seen_old is s at = subst (λ l. IsSeenAt facts l s) is at

  pub old_at : look ≡ Old store → (s : State) → IsSeenOldAt facts look s → IsOldAt facts store s
  old_at is s at = subst (λ l. IsSeenOldAt facts l s) is at

  module _ (m : List Sector) (found : (s : State) × ((Stands m s × IsSeenAt facts look s) ⊎ (StandsOld m s × IsSeenOldAt facts look s))) where
    pub current_found : look ≡ Current store → (s : State) × Stands m s × IsAt facts store s
    current_found is =
        let both : Stands m found.0 × IsAt facts store found.0 = ⊎_elim (λ new. (new.0, current_at is found.0 new.1)) (λ old. absurd (seen_current is found.0 old.1)) found.1 in
        (found.0, both.0, both.1)

    pub old_found : look ≡ Old store → (s : State) × StandsOld m s × IsOldAt facts store s
    old_found is =
        let both : StandsOld m found.0 × IsOldAt facts store found.0 = ⊎_elim (λ new. absurd (seen_old is found.0 new.1)) (λ old. (old.0, old_at is found.0 old.1)) found.1 in
        (found.0, both.0, both.1)

  -- The disk of the store that was found has the number of sectors that its root says.
  pub sectors_seen : (s : State) → IsOldAt facts store s → HoldsNow (facts store.disk) → store.root.sectors ≡ (facts store.disk).sectors
  sectors_seen s at holds = (at.stands (facts store.disk).now holds).intact.size ∙ holds.size

  -- a stop leaves what it could leave before the commit, or what it may leave during the commit
  pub then_committed : (old new : DiskFacts) (s : State) → look ≡ Old store → LeavesOnly old (facts (seen look).disk) (Mixture old)
      → LeavesOnly (facts store.disk) new (λ m. StandsOld m s ⊎ Stands m (upgraded s))
      → LeavesOnly old new (λ m. Mixture old m ⊎ StandsOld m s ⊎ Stands m (upgraded s))
  then_committed old new s is before after =
      let P : List Sector → Type 0 = λ m. Mixture old m ⊎ StandsOld m s ⊎ Stands m (upgraded s) in
      goes_on P
      (weaken (Mixture old) P (λ m mixture. inl mixture) (subst (λ l. LeavesOnly old (facts (seen l).disk) (Mixture old)) is before))
      (weaken (λ m. StandsOld m s ⊎ Stands m (upgraded s)) P (λ m which. inr which) after)

-- A relisted store has the entries by which the sectors held the state by the rules of version 1.
pub relisted_from : {D : Type 0} (facts : D → DiskFacts) (store : Opened D) (s : State) → IsOldAt facts store s → HoldsNow (facts store.disk)
    → (m : List Sector) → (facts store.disk).now ≡ m → (new : Opened D) → IsRelisted store new → IsRelistedFrom m s new
relisted_from facts store s at holds m same new is = record {
  root = store.root;
  stood = subst (λ es. StandsBy One m store.root es s) (sym is.entries)
      (subst (λ l. StandsBy One l store.root store.entries s) same (at.stands (facts store.disk).now holds));
  taken = subst (λ es. AreTaken (layout_of store.root.sectors (used store.root es)) (catalogues_of new.root)) (sym is.entries) is.taken;
}

-- The calls of `look`, and those of the commit after it.
module _ {D E : Type 0} (facts : D → DiskFacts) (start : DiskFacts) (old : Opened D)
    (looked : AreCallsExactly (3 + length (catalogues_of old.root) + length old.entries) start (facts old.disk))
    (one : version_of old.root ≡ One) where
  pub relisted_calls : (r : Result (Opened D) E) → IfOk r (IsRelisted old) → IfOk r (λ store. AreCallsExactly (catalogues_for (length old.entries) + 3) (facts old.disk) (facts store.disk))
      → IfOk r (λ store. AreCallsExactly (3 + length store.entries + (catalogues_for (length store.entries) + 3)) start (facts store.disk))
  relisted_calls (Ok store) relisted calls =
      let none : length (catalogues_of old.root) ≡ 0 = ap length (none_in old.root.list one) in
      subst (λ entries. AreCallsExactly (3 + length entries + (catalogues_for (length entries) + 3)) start (facts store.disk)) (sym relisted.entries)
      (exactly_sum looked calls (omega (arith, none)))
  relisted_calls (Err e) relisted calls = tt
