use Rattle.std.proofs.Common.{rules, ◌≡◌, ⊎_elim, true, false, refl, sym, subst}
use Rattle.store.specs.Holds.{LetsHoldGo}
use Rattle.store.specs.Opened.{Opened}
use Rattle.store.specs.inside.Stored.{opened}
use Rattle.store.specs.inside.Kept.{IsKept}
use Rattle.store.proofs.Holding.{gone_done, gone_freed, gone_held, gone_listed, held_fits, kept_held, less_done, none_done, with_held}
use Rattle.store.proofs.HeldRows.{by_place, held_less, lone_less}
use Rattle.store.proofs.store.Store.let_go.Given as given
use Rattle.store.proofs.store.Store.let_go.Goals.{After-let_go}
use Rattle.store.proofs.store.Store.let_go.Goals as goal

-- the store before the call
abbrev before : (g : given.Over) (c : After-let_go g) → Opened g.row.D.Denot
before g c = opened c.self.inside.disk c.self.inside.kept

-- the effect of `let_go`, in terms of the caller's store and handle
said : (g : given.Over) (c : After-let_go g) (after : Opened g.row.D.Denot) → LetsHoldGo g.D.Disk.facts (before g c) after c.held.inside.at
    → LetsHoldGo g.D.Disk.facts c.args.self.now after c.args.held
said g c after done =
    subst (λ store. LetsHoldGo g.D.Disk.facts store after c.args.held) c.self.view_is
    (subst (λ at. LetsHoldGo g.D.Disk.facts (before g c) after at) c.held.view_is done)

pub give_back-requires-clause-fits : goal.give_back-requires-clause-fits
give_back-requires-clause-fits g c = held_fits c.self.invariant.0 (by_place c.in-Some.ensures.some.at)

pub give_back-requires-clause-held : goal.give_back-requires-clause-held
give_back-requires-clause-held g c =
    let unlisted : c.in-Some.hold.listed ≡ false = search rules in
    gone_held c.self.invariant.0 c.in-Some.ensures.some unlisted

pub invariant_of-self : goal.invariant_of-self
invariant_of-self g c =
    let unlisted : c.in-Some.hold.listed ≡ false = search rules in
    (gone_freed c.self.invariant.0 c.in-Some.ensures.some unlisted c.give_back.new.layout c.give_back.ensures, c.self.invariant.1, c.self.invariant.2, c.self.invariant.3, c.self.invariant.4)

pub invariant_of-self-else-not-hold : goal.invariant_of-self-else-not-hold
invariant_of-self-else-not-hold g c =
    let listed : c.in-Some.hold.listed ≡ true = search rules in
    (gone_listed c.self.invariant.0 c.in-Some.ensures.some listed, c.self.invariant.1, c.self.invariant.2, c.self.invariant.3, c.self.invariant.4)

pub invariant_of-self-in_default : goal.invariant_of-self-in_default
invariant_of-self-in_default g c = (
  ⊎_elim
      (λ less. kept_held c.self.invariant.0 (held_less c.self.invariant.0.rows less) (lone_less less))
      (λ same. subst (λ l. IsKept c.self.inside.kept.root c.self.inside.kept.entries.items l c.self.inside.kept.layout) (sym same.1) c.self.invariant.0)
      (c.in_default.ensures.none refl),
  c.self.invariant.1,
  c.self.invariant.2,
  c.self.invariant.3,
  c.self.invariant.4,
)

pub returns-then-not-hold : goal.returns-then-not-hold
returns-then-not-hold g c =
    let unlisted : c.in-Some.hold.listed ≡ false = search rules in
    let here = (goal.at.returns-then-not-hold g c).After-let_go in
    said g here (with_held (before g here) c.let_go.new.self)
    (gone_done g.D.Disk.facts (before g here) c.self.invariant.0 c.in-Some.ensures.some (gone_freed c.self.invariant.0 c.in-Some.ensures.some unlisted c.give_back.new.layout c.give_back.ensures))

pub returns-else-not-hold : goal.returns-else-not-hold
returns-else-not-hold g c =
    let listed : c.in-Some.hold.listed ≡ true = search rules in
    let here = (goal.at.returns-else-not-hold g c).After-let_go in
    said g here (with_held (before g here) c.let_go.new.self)
    (gone_done g.D.Disk.facts (before g here) c.self.invariant.0 c.in-Some.ensures.some (gone_listed c.self.invariant.0 c.in-Some.ensures.some listed))

pub returns-in_default : goal.returns-in_default
returns-in_default g c =
    let here = (goal.at.returns-in_default g c).After-let_go in
    said g here (with_held (before g here) c.let_go.new.self)
    (⊎_elim
    (λ less. less_done g.D.Disk.facts (before g here) c.self.invariant.0 less)
    (λ same. subst (λ l. LetsHoldGo g.D.Disk.facts (before g here) (with_held (before g here) l) c.held.inside.at) (sym same.1) (none_done g.D.Disk.facts (before g here) c.self.invariant.0 same.0))
    (c.in_default.ensures.none refl))
