-- How the root sectors are read: a sync, and then reads.
use Rattle.std.proofs.Common.{ℕ, Result, IsTrue, sym, subst, ◌∙◌}
use Rattle.sector_disk.specs.Disk.{Sector, DiskFacts, Mixture, MayAddSync, IsCall, IsRead, IsSync}
use Rattle.sector_disk.proofs.Moments.{at_rest}
use Rattle.sector_disk.proofs.Writes.{sync_leaves, read_leaves}
use Rattle.store.specs.inside.Reading.{AreReadsBehindSync}

sync_alone : {old new : DiskFacts} {T E : Type 0} {result : Result T E} → IsCall old new result → IsSync old new result → AreReadsBehindSync old new
sync_alone {old = old} call sync = record {
  leaves = sync_leaves call (Mixture old) sync (at_rest old (Mixture old) (λ m mixture. mixture));
  now = sync.now;
  log = sync.log;
}

one_read_more : {first old new : DiskFacts} {at : ℕ} {content : Sector} {T E : Type 0} {result : Result T E} → AreReadsBehindSync first old
    → IsCall old new result → IsRead old new at content result → AreReadsBehindSync first new
one_read_more {first = first} before call read = record {
  leaves = read_leaves call (Mixture first) read before.leaves;
  now = read.same.now ∙ before.now;
  log = subst (MayAddSync first.log) (sym read.same.log) before.log;
}

module _ {first mid old : DiskFacts} {S F : Type 0} {synced : Result S F} (sync_call : IsCall first mid synced) (sync : IsTrue first.honest → IsSync first mid synced)
    {zero_at : ℕ} {zero_content : Sector} {T E : Type 0} {zero : Result T E} (zero_call : IsCall mid old zero)
    (zero_read : IsTrue mid.honest → IsRead mid old zero_at zero_content zero) where
  pub read_zero : IsTrue first.honest → AreReadsBehindSync first old
  read_zero honest = one_read_more (sync_alone sync_call (sync honest)) zero_call (zero_read (subst IsTrue (sym sync_call.honest) honest))

  pub read_one : {new : DiskFacts} {one_at : ℕ} {one_content : Sector} {U G : Type 0} {one : Result U G} → IsCall old new one
      → (IsTrue old.honest → IsRead old new one_at one_content one) → IsTrue first.honest → AreReadsBehindSync first new
  read_one one_call one_read honest = one_read_more (read_zero honest) one_call (one_read (subst IsTrue (sym (zero_call.honest ∙ sync_call.honest)) honest))
