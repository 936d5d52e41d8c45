-- The effect of a change on any disk, honest or not, for each result of the change.
use Rattle.std.specs.Prelude.{◌≡◌, ◌≢◌, ◌<◌, ◌↔◌, ℕ, IsTrue, IsFalse, Result, Err, IfErr, OnOk}
use Rattle.sector_disk.specs.Disk.{DiskFacts, AreCallsExactly, AreCallsAtMost}
use Rattle.store.specs.Opened.{Opened}

-- A change made at most `most` calls, and refused only with refusals that `Refuses` allows. `s1` is
-- the refusal of a failing device (S1), and `s2` that of a store that has to be opened again (S2).
pub record Changed {D R : Type 0} (facts : D → DiskFacts) (s1 s2 : R) (old new : Opened D) (most : ℕ) (Refuses : R → Type 0)
    (result : Result (Unit {0}) R) : Type 0 where
  -- the answer is `s2` if and only if an earlier write or sync failed: the disk has to be opened again
  pub reopen : (result ≡ Err s2) ↔ IsTrue old.failed
  pub device : IfErr result (λ e. e ≡ s1 → ((facts old.disk).failures < (facts new.disk).failures) × IsTrue new.failed)
  pub same : IfErr result (λ e. e ≢ s1 → new ≡ old)
  pub usable : OnOk result (IsFalse new.failed)
  pub refusals : IfErr result Refuses
  pub all_calls : OnOk result (AreCallsExactly most (facts old.disk) (facts new.disk))
  pub calls : AreCallsAtMost most (facts old.disk) (facts new.disk)
