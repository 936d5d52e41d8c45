-- Calls of an honest disk in a row: what a stop leaves since the first call, and what reads return.
use Rattle.std.proofs.Common.{◌≡◌, inl, ℕ, ◌<◌, List, set, Result, sym, subst}
use Rattle.sector_disk.specs.Disk.{Sector, DiskFacts, HoldsNow, IsCall, IsRead, IsWrite, IsSync, IsSynced, LeavesOnly, SameBut, IsMixtureBut, IsMixtureOrSet, IsOldOrSet}
use Rattle.sector_disk.proofs.Moments.{one_call, goes_on, left_now}
use Rattle.sector_disk.proofs.Mixtures.{same_more, same_set, mixture_but, after_write, any_write, one_write, after_sync, after_read}

module _ {first old new : DiskFacts} {T E : Type 0} {result : Result T E} (call : IsCall old new result) where
  -- one more write, into one of these sectors, leaves mixtures that differ only in these sectors
  pub write_leaves : {at : ℕ} {content : Sector} (places : ℕ → Type 0) → places at → HoldsNow old → IsWrite old new at content result
      → LeavesOnly first old (IsMixtureBut places first) → LeavesOnly first new (IsMixtureBut places first)
  write_leaves {at = at} places here holds write so_far =
      let before = left_now (IsMixtureBut places first) so_far in
      goes_on (IsMixtureBut places first) so_far (one_call (IsMixtureBut places first) call write.past before
      (λ m mixture. mixture_but (λ k. k ≡ at) places (λ k same. subst places (sym same) here) before m (after_write holds write m mixture)))

  -- a sync leaves nothing new
  pub sync_leaves : (P : List Sector → Type 0) → IsSync old new result → LeavesOnly first old P → LeavesOnly first new P
  sync_leaves P sync so_far =
      let before = left_now P so_far in
      goes_on P so_far (one_call P call sync.past before (λ m mixture. before m (after_sync sync m mixture)))

  -- a read leaves nothing new
  pub read_leaves : {at : ℕ} {content : Sector} (P : List Sector → Type 0) → IsRead old new at content result → LeavesOnly first old P → LeavesOnly first new P
  read_leaves P read so_far =
      let before = left_now P so_far in
      goes_on P so_far (one_call P call read.past before (λ m mixture. before m (after_read read m mixture)))

-- one write leaves mixtures from before it, or such mixtures with this content in its sector
pub one_write_leaves : {old new : DiskFacts} {T E : Type 0} {result : Result T E} {at : ℕ} {content : Sector} → IsCall old new result
    → at < old.sectors → HoldsNow old → IsWrite old new at content result → LeavesOnly old new (IsMixtureOrSet old at content)
one_write_leaves {old = old} {at = at} {content = content} call in_old holds write =
    one_call (IsMixtureOrSet old at content) call write.past (λ m mixture. inl mixture) (λ m mixture. any_write holds write m mixture in_old)

-- one write into a synced disk leaves the old contents, or these with the new content
pub commit_leaves : {old new : DiskFacts} {T E : Type 0} {result : Result T E} {at : ℕ} {content : Sector} → IsCall old new result → at < old.sectors
    → HoldsNow old → IsSynced old → IsWrite old new at content result → LeavesOnly old new (IsOldOrSet old.now at content)
commit_leaves {old = old} {at = at} {content = content} call in_old holds is_synced write =
    one_call (IsOldOrSet old.now at content) call write.past (λ m mixture. inl (is_synced.each m mixture)) (λ m mixture. one_write holds write m mixture in_old is_synced)

-- after one more write into one of these sectors, reads still return the same in all other sectors
pub write_others : {first old new : List Sector} (places : ℕ → Type 0) (at : ℕ) (content : Sector) → places at → SameBut places first old → new ≡ set old at content → SameBut places first new
write_others {first = first} {old = old} places at content here so_far is =
    subst (SameBut places first) (sym is) (same_more (λ k same. subst places (sym same) here) so_far (same_set old at content))
