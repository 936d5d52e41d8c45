-- What a stop during the two passes leaves.
use Rattle.std.proofs.Common.{ℕ, List}
use Rattle.sector_disk.specs.Disk.{Sector, DiskFacts, LeavesOnly, SameBut, IsMixtureBut}
use Rattle.sector_disk.proofs.Moments.{weaken}

-- lists that differ only in some sectors differ only in these and more sectors
pub wider : {some more : ℕ → Type 0} {old new : List Sector} → ((k : ℕ) → some k → more k) → SameBut some old new → SameBut more old new
wider among same = record { size = same.size; others = λ k not. same.others k (λ here. not (among k here)) }

pub wider_leaves : {old new : DiskFacts} (some more : ℕ → Type 0) → ((k : ℕ) → some k → more k) → LeavesOnly old new (IsMixtureBut some old) → LeavesOnly old new (IsMixtureBut more old)
wider_leaves {old = old} some more among leaves = weaken (IsMixtureBut some old) (IsMixtureBut more old) (λ m but. (but.0, but.1, wider among but.2)) leaves
