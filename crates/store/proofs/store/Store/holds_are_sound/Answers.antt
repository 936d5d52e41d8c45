use Rattle.std.proofs.Common.{subst}
use Rattle.store.specs.Holds.{AreHolds}
use Rattle.store.proofs.GivenUp.{flags}
use Rattle.store.proofs.HeldRows.{by_some}
use Rattle.store.proofs.store.Store.holds_are_sound.Goals as goal

pub returns : goal.returns
returns g c = subst (λ store. AreHolds store) c.self.view_is (record {
  rows = c.self.invariant.0.rows.own;
  holders = λ sector placed by. by_some c.self.invariant.0.rows by;
  flags = flags c.self.invariant.0;
})
