-- What an upgrade makes of a registry on a disk of version 1.
use Rattle.std.proofs.Common.{◌≡◌, ◌<◌, ◌⊎◌, ℕ, inl, inr, ⊎_elim, refl, ◌+◌, List, length, ap, arith, IsFalse, Option, Some, None, Result, Ok, Err, IfOk, All, sym, subst}
use Rattle.sector_disk.specs.Disk.{Sector, DiskFacts, Mixture, LeavesOnly, Logged, LogGrows, MayAddSync, GrowsBehindSync, AreCalls, AreCallsExactly}
use Rattle.std.specs.Prelude.{sum_by, IfErr}
use Rattle.std.proofs.lemmas.Result.{IfErr-weaker}
use Rattle.roots.specs.Root.{version_of}
use Rattle.roots.specs.declared.version.Version.TheVariants.{One}
use Rattle.store.specs.Stands.{catalogues_of}
use Rattle.store.proofs.Relistings.{none_in}
use Rattle.sector_disk.proofs.Moments.{goes_on, weaken, exactly_sum}
use Rattle.states.specs.Geometry.{IsGeometry}
use Rattle.states.specs.State.{State}
use Rattle.store.specs.declared.look.Look.{Look}
use Rattle.store.specs.declared.look.Look.TheVariants.{Old}
use Rattle.store.specs.declared.refusal.StoreRefusal.{StoreRefusal}
use Rattle.store.specs.declared.refusal.StoreRefusal.TheVariants.{Device, Reopen, NotFormatted, AlreadyFormatted, Damaged, BadGeometry, Full}
use Rattle.store.specs.declared.refusal.StoreRefusal.TheVariants.{Fragmented, TooMany, GenerationEnd, OutOfMemory, OldFormat}
use Rattle.store.specs.Looked.{seen}
use Rattle.store.specs.Opened as opened
use Rattle.store.specs.Opening.{IsRefusalOfLook, IsRefusalOfUpgrade}
use Rattle.store.specs.Opened.{Opened}
use Rattle.store.specs.Stands as sectors
use Rattle.store.specs.Step.{IsRefusalOfCommit, IsUpgradeAnswer}
use Rattle.store.specs.Taken.{IsRelisted}
use Rattle.store.specs.Upgraded.{upgraded}
use Rattle.states.specs.Cost.{catalogues_for}
use Rattle.requests.specs.Library.{IsLibrary}
use Rattle.store.specs.IsRead.{file_sectors}
use Rattle.registry.specs.Stands.{Stands, StandsOld}

-- S1 and S11, by which a read of the files may be refused, are possible answers of an upgrade, whatever
-- its first refusal is.
pub as_read : (first : Option StoreRefusal) (e : StoreRefusal) → (e ≡ Device) ⊎ (e ≡ OutOfMemory) → IsUpgradeAnswer first (Err e)
as_read None e which = which
as_read (Some first) e which = inr which

-- If the files of a state are libraries, and sectors hold the state by the store's old rules, they hold
-- it as a registry of version 1.
pub stands_old : (m : List Sector) (s : State) → All IsLibrary s.libraries → sectors.StandsOld m s → StandsOld m s
stands_old m s libraries stands = record { stored = stands; libraries = libraries }

module _ {D : Type 0} (facts : D → DiskFacts) (store : opened.Opened D) (s : State) (at : opened.IsOldAt facts store s) (libraries : All IsLibrary s.libraries) where
  -- reading files leaves only what a stop could leave before, so the old state
  pub read_leaves : (new : DiskFacts) → LeavesOnly (facts store.disk) new (Mixture (facts store.disk)) → LeavesOnly (facts store.disk) new (λ m. StandsOld m s ⊎ Stands m (upgraded s))
  read_leaves new leaves =
      weaken (Mixture (facts store.disk)) (λ m. StandsOld m s ⊎ Stands m (upgraded s))
      (λ m mixture. inl (stands_old m s libraries (store.root, store.entries, at.stands m mixture))) leaves

  -- after the files were read, a commit leaves the old state or the new one
  pub commit_leaves : (mid new : DiskFacts) → LeavesOnly (facts store.disk) mid (Mixture (facts store.disk))
      → LeavesOnly mid new (λ m. sectors.StandsOld m s ⊎ sectors.Stands m (upgraded s))
      → LeavesOnly (facts store.disk) new (λ m. StandsOld m s ⊎ Stands m (upgraded s))
  commit_leaves mid new before after =
      goes_on (λ m. StandsOld m s ⊎ Stands m (upgraded s)) (read_leaves mid before)
      (weaken (λ m. sectors.StandsOld m s ⊎ sectors.Stands m (upgraded s)) (λ m. StandsOld m s ⊎ Stands m (upgraded s))
      (λ m. ⊎_elim (λ old. inl (stands_old m s libraries old)) (λ new. inr (record { stored = new; libraries = libraries }))) after)

-- A look, followed by an upgrade of the store that it found, leaves what a stop could leave before, the
-- old state or the new one.
pub then_upgraded : {D : Type 0} (facts : D → DiskFacts) (look : Look D) (store : opened.Opened D) (old new : DiskFacts) (s : State)
    → look ≡ Old store → LeavesOnly old (facts (seen look).disk) (Mixture old)
    → LeavesOnly (facts store.disk) new (λ m. StandsOld m s ⊎ Stands m (upgraded s))
    → LeavesOnly old new (λ m. Mixture old m ⊎ StandsOld m s ⊎ Stands m (upgraded s))
then_upgraded facts look store old new s is before after =
    let P : List Sector → Type 0 = λ m. Mixture old m ⊎ StandsOld m s ⊎ Stands m (upgraded s) in
    goes_on P
    (weaken (Mixture old) P (λ m mixture. inl mixture) (subst (λ l. LeavesOnly old (facts (seen l).disk) (Mixture old)) is before))
    (weaken (λ m. StandsOld m s ⊎ Stands m (upgraded s)) P (λ m which. inr which) after)

-- The log of a store that was given catalogues after a look.
pub relisted_log : {D E : Type 0} (facts : D → DiskFacts) (old : Opened D) (start : List Logged) → MayAddSync start (facts old.disk).log → (r : Result (Opened D) E) → IfOk r (IsRelisted old)
    → IfOk r (λ new. LogGrows (catalogues_for (length old.entries) + 3) (facts old.disk).log (facts new.disk).log)
    → IfOk r (λ new. GrowsBehindSync (catalogues_for (length new.entries) + 3) start (facts new.disk).log)
relisted_log facts old start sync (Ok new) relisted grows =
    subst (λ entries. GrowsBehindSync (catalogues_for (length entries) + 3) start (facts new.disk).log) (sym relisted.entries) (record { begun = (facts old.disk).log; sync = sync; more = grows })
relisted_log facts old start sync (Err e) relisted grows = tt

-- an opening that reads each file makes the calls of opening the store, and one for each sector of each
-- file
pub admitted_calls : {D E : Type 0} (facts : D → DiskFacts) (start : DiskFacts) (old : Opened D)
    → AreCallsExactly (3 + length (catalogues_of old.root) + length old.entries) start (facts old.disk) → (r : Result (Opened D) E)
    → IfOk r (λ new. (new.root ≡ old.root) × (new.entries ≡ old.entries) × IsFalse new.failed)
    → IfOk r (λ new. AreCallsExactly (sum_by file_sectors old.entries) (facts old.disk) (facts new.disk))
    → IfOk r (λ new. AreCallsExactly (3 + length (catalogues_of new.root) + length new.entries + sum_by file_sectors new.entries) start (facts new.disk))
admitted_calls facts start old opening (Ok new) kept calls =
    subst (λ root. AreCallsExactly (3 + length (catalogues_of root) + length new.entries + sum_by file_sectors new.entries) start (facts new.disk)) (sym kept.0)
    (subst (λ entries. AreCallsExactly (3 + length (catalogues_of old.root) + length entries + sum_by file_sectors entries) start (facts new.disk)) (sym kept.1) (exactly_sum opening calls refl))
admitted_calls facts start old opening (Err e) kept calls = tt

-- an upgrade of a disk of version 1 makes the calls of the look, of reading each file, and of the commit
pub relisted_calls : {D E : Type 0} (facts : D → DiskFacts) (start : DiskFacts) (old : Opened D)
    → AreCallsExactly (3 + length (catalogues_of old.root) + length old.entries) start (facts old.disk) → version_of old.root ≡ One
    → (r : Result (Opened D) E)
    → IfOk r (IsRelisted old)
    → IfOk r (λ new. AreCallsExactly (sum_by file_sectors old.entries + (catalogues_for (length old.entries) + 3)) (facts old.disk) (facts new.disk))
    → IfOk r (λ new. AreCallsExactly (3 + length new.entries + sum_by file_sectors new.entries + (catalogues_for (length new.entries) + 3)) start (facts new.disk))
relisted_calls facts start old looked one (Ok new) relisted calls =
    let none : length (catalogues_of old.root) ≡ 0 = ap length (none_in old.root.list one) in
    subst (λ entries. AreCallsExactly (3 + length entries + sum_by file_sectors entries + (catalogues_for (length entries) + 3)) start (facts new.disk)) (sym relisted.entries)
    (exactly_sum looked calls (omega (arith, none)))
relisted_calls facts start old looked one (Err e) relisted calls = tt

-- A refusal of the look is a refusal of the upgrade.
pub refuses_looked : (sectors : ℕ) (e : StoreRefusal) → IsRefusalOfLook sectors e → IsRefusalOfUpgrade sectors e
refuses_looked sectors Device h = h
refuses_looked sectors Reopen h = absurd h
refuses_looked sectors NotFormatted h = h
refuses_looked sectors AlreadyFormatted h = absurd h
refuses_looked sectors Damaged h = h
refuses_looked sectors BadGeometry h = h
refuses_looked sectors Full h = absurd h
refuses_looked sectors Fragmented h = absurd h
refuses_looked sectors TooMany h = absurd h
refuses_looked sectors GenerationEnd h = absurd h
refuses_looked sectors OutOfMemory h = h
refuses_looked sectors OldFormat h = absurd h

-- S1, S5 and S11, by which admitting the files is refused, are refusals of the upgrade.
pub refuses_admitted : (sectors : ℕ) (e : StoreRefusal) → IsGeometry sectors → (e ≡ Device) ⊎ (e ≡ Damaged) ⊎ (e ≡ OutOfMemory) → IsRefusalOfUpgrade sectors e
refuses_admitted sectors e geometry which = ⊎_elim (λ a. rw a geometry) (λ rest. ⊎_elim (λ a. rw a geometry) (λ a. rw a geometry) rest) which

-- A refusal of the commit, or of a read before it, is a refusal of the upgrade.
pub commit_refuses : (e : StoreRefusal) → IsRefusalOfCommit e → (e ≡ Device) ⊎ (e ≡ Damaged) ⊎ (e ≡ OutOfMemory) ⊎ (e ≡ GenerationEnd) ⊎ (e ≡ Full)
commit_refuses Device h = inl refl
commit_refuses GenerationEnd h = inr (inr (inr (inl refl)))
commit_refuses Full h = inr (inr (inr (inr refl)))
commit_refuses Reopen h = absurd h
commit_refuses NotFormatted h = absurd h
commit_refuses AlreadyFormatted h = absurd h
commit_refuses Damaged h = absurd h
commit_refuses BadGeometry h = absurd h
commit_refuses Fragmented h = absurd h
commit_refuses TooMany h = absurd h
commit_refuses OutOfMemory h = absurd h
commit_refuses OldFormat h = absurd h

pub unread_refuses : (e : StoreRefusal) → (e ≡ Device) ⊎ (e ≡ Damaged) ⊎ (e ≡ OutOfMemory) → (e ≡ Device) ⊎ (e ≡ Damaged) ⊎ (e ≡ OutOfMemory) ⊎ (e ≡ GenerationEnd) ⊎ (e ≡ Full)
unread_refuses e which = ⊎_elim (λ is. inl is) (λ rest. ⊎_elim (λ is. inr (inl is)) (λ is. inr (inr (inl is))) rest) which

pub refuses_relisted : (sectors : ℕ) (e : StoreRefusal) → IsGeometry sectors → (e ≡ Device) ⊎ (e ≡ Damaged) ⊎ (e ≡ OutOfMemory) ⊎ (e ≡ GenerationEnd) ⊎ (e ≡ Full) → IsRefusalOfUpgrade sectors e
refuses_relisted sectors e geometry which =
    ⊎_elim (λ a. rw a geometry)
    (λ rest. ⊎_elim (λ a. rw a geometry) (λ rest. ⊎_elim (λ a. rw a geometry) (λ rest. ⊎_elim (λ a. rw a geometry) (λ a. rw a geometry) rest) rest) rest) which

module _ {D : Type 0} (facts : D → DiskFacts) (disk : D) where
  -- if a call failed since the look, a call failed since the beginning
  pub device_since : (mid : D) → AreCalls (facts disk) (facts mid) → (r : Result (Opened D) (StoreRefusal × D)) → IfErr r (λ e. e.0 ≡ Device → (facts mid).failures < (facts e.1).failures)
      → IfErr r (λ e. e.0 ≡ Device → (facts disk).failures < (facts e.1).failures)
  device_since mid calls r rose = IfErr-weaker r _ _ (λ e rose is. omega (arith, rose is, calls.failures)) rose

  -- if a look accepted the size of a disk, the upgrade isn't refused with S6
  pub untouched_since : IsGeometry (facts disk).sectors → (r : Result (Opened D) (StoreRefusal × D))
      → IfErr r (λ e. IsRefusalOfUpgrade (facts disk).sectors e.0) → IfErr r (λ e. e.0 ≡ BadGeometry → e.1 ≡ disk)
  untouched_since geometry r refusals = IfErr-weaker r _ _ (λ e refused is. absurd ((subst (IsRefusalOfUpgrade (facts disk).sectors) is refused) geometry)) refusals
