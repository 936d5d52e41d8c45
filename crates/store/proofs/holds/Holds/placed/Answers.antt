use Rattle.std.proofs.Common.{subst, sym}
use Rattle.store.specs.Holds.{IsHeldBy}
use Rattle.store.specs.inside.HeldRows.{IsUnheld}
use Rattle.store.proofs.HeldRows.{by_place}
use Rattle.store.proofs.KeyedRows.{none_found, row_found}
use Rattle.store.proofs.holds.Holds.placed.Goals as goal

pub returns-in_err-hold-clause-none : goal.returns-in_err-hold-clause-none
returns-in_err-hold-clause-none c = λ _.
    subst (λ rows. IsUnheld rows c.args.sector) c.self.view_is (none_found c.self.inside.rows.entries c.self.invariant c.args.sector (sym c.in_err-hold.ensures.value))

pub returns-clause-some : goal.returns-clause-some
returns-clause-some c =
    let hold = c.in_ok-hold.hold.now in
    subst (λ rows. IsHeldBy rows c.args.sector hold.placed) c.self.view_is
    (by_place (row_found c.self.inside.rows.entries c.self.invariant c.args.sector hold (sym c.in_ok-hold.ensures.value)))
