use Rattle.std.proofs.Common.{sym, subst, arith}
use Rattle.store.specs.Draft.{IsDraftedAt}
use Rattle.store.proofs.DraftReads.{count_drafted}
use Rattle.store.proofs.update.Update.count.Goals as goal

pub returns-clause-few : goal.returns-clause-few
returns-clause-few g c = omega (arith, c.len.ensures, c.self.invariant.list.few)

pub returns-clause-state : goal.returns-clause-state
returns-clause-state g c s d at =
    omega (arith, c.len.ensures, count_drafted g.D.Disk.facts (subst (λ u. IsDraftedAt g.D.Disk.facts u s d) (sym c.self.view_is) at))
