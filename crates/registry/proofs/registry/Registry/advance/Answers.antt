use Rattle.std.proofs.Common.{IsTrue, IsFalse, Err, sym, subst, ◌∙◌}
use Rattle.requests.specs.declared.refusal.Refusal.TheVariants.{Reopen}
use Rattle.registry.specs.Flight.{Flight}
use Rattle.registry.specs.Flying.{Advances, Flies}
use Rattle.registry.specs.inside.Binding.{Binding}
use Rattle.registry.proofs.Bounds.{bounded}
use Rattle.registry.proofs.Flights.{has_advanced, hasnt_advanced}
use Rattle.registry.proofs.registry.Registry.advance.Goals as goal

pub returns-then-has_failed : goal.returns-then-has_failed
returns-then-has_failed g c =
    let failed : IsTrue c.self.inside.store.failed = sym c.has_failed.ensures.value ∙ c.if-has_failed.true in
    let bounds = λ (flight : Flight) (flies : Flies g.D.Disk.facts c.self.inside.store c.args.binder.now flight).
    bounded g.D.Disk.facts c.self.inside.store c.args.binder.now flight flies (g.met.D.Disk.holds_now flies.taken.disk) c.preloads_are_apart.ensures.inside c.preloads_are_apart.ensures.once in
    subst (λ k. Advances g.D.Disk.facts k k c.args.binder.now c.args.binder.now (Err Reopen)) c.self.view_is
    (hasnt_advanced g.D.Disk.facts c.self.inside.store c.args.binder.now failed bounds)

pub returns : goal.returns
returns g c =
    let before : Binding = c.args.binder.now in
    let usable : IsFalse c.self.inside.store.failed = sym c.has_failed.ensures.value ∙ c.if-has_failed.false in
    let bounds = λ (flight : Flight) (flies : Flies g.D.Disk.facts c.self.inside.store before flight).
    bounded g.D.Disk.facts c.self.inside.store before flight flies (g.met.D.Disk.holds_now flies.taken.disk) c.preloads_are_apart.ensures.inside c.preloads_are_apart.ensures.once in
    subst (λ k. Advances g.D.Disk.facts k c.step.new.store before c.step.new.self c.step.result) c.self.view_is
    (has_advanced g.D.Disk.facts c.self.inside.store c.step.new.store before.program before.base before c.step.new.self c.step.result usable
    c.step.ensures.read c.step.ensures.stays c.step.ensures.step bounds c.step.ensures.refusals c.step.ensures.answers)
