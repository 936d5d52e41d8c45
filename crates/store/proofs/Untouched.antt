-- A change that is refused before it writes.
use Rattle.std.proofs.Common.{◌≡◌, ◌⊎◌, inl, sym, subst}
use Rattle.sector_disk.specs.Disk.{DiskFacts, LeavesOnly}
use Rattle.sector_disk.proofs.Moments.{at_rest}
use Rattle.store.specs.Opened.{Opened, IsAt}
use Rattle.store.specs.Stands.{Stands}
use Rattle.states.specs.State.{State}

-- If a change is refused before it writes, a stop leaves the state before it.
pub untouched : {D : Type 0} (facts : D → DiskFacts) (before after : Opened D) (s s' : State) → after ≡ before → IsAt facts before s
    → LeavesOnly (facts before.disk) (facts after.disk) (λ m. Stands m s ⊎ Stands m s')
untouched facts before after s s' same at =
    subst (λ store. LeavesOnly (facts before.disk) (facts store.disk) (λ m. Stands m s ⊎ Stands m s')) (sym same)
    (at_rest (facts before.disk) (λ m. Stands m s ⊎ Stands m s') (λ m mixture. inl (before.root, before.entries, at.stands m mixture)))
