use Rattle.std.proofs.Common.{◌≡◌, None, Some, get_or, set, sym, ap, subst, ◌∙◌}
use Rattle.std.proofs.lemmas.List.{set-get_or}
use Rattle.requests.specs.declared.refusal.Refusal.TheVariants.{NoSuchBinder}
use Rattle.requests.specs.declared.reply.Reply.TheVariants.{Done, Refused}
use Rattle.binders.specs.Slotted.{Slotted}
use Rattle.binders.specs.Stepped.{CancelsIn}
use Rattle.binders.proofs.OnFlights.{with_slots}
use Rattle.binders.proofs.Stepping.{cancelled_in, uncancelled_in}
use Rattle.binders.proofs.binders.Binders.cancel.Goals as goal

pub returns-in-Some : goal.returns-in-Some
returns-in-Some g c =
    let there : get_or c.self.inside.slots c.args.slot None ≡ Some c.in-Some.binder = sym c.take.ensures.taken ∙ c.in-Some.is in
    subst (λ (k : Slotted g.row.D.Denot). CancelsIn g.D.Disk.facts k (with_slots c.end.new.self c.take.new.self) c.args.slot Done) c.self.view_is
    (subst (λ slots. CancelsIn g.D.Disk.facts (with_slots c.self.inside.registry c.self.inside.slots) (with_slots c.end.new.self slots) c.args.slot Done) (sym c.take.ensures.free)
    (cancelled_in g.D.Disk.facts c.self.inside.registry c.self.inside.slots c.args.slot c.in-Some.binder there c.end.new.self c.self.invariant c.end.ensures))

pub returns-in-None : goal.returns-in-None
returns-in-None g c =
    let none : get_or c.self.inside.slots c.args.slot None ≡ None = sym c.take.ensures.taken ∙ c.in-None.is in
    let same = c.take.ensures.free ∙ ap (λ o. set c.self.inside.slots c.args.slot o) (sym none) ∙ set-get_or c.self.inside.slots c.args.slot None in
    subst (λ (k : Slotted g.row.D.Denot). CancelsIn g.D.Disk.facts k (with_slots c.self.inside.registry c.take.new.self) c.args.slot (Refused NoSuchBinder)) c.self.view_is
    (subst (λ slots. CancelsIn g.D.Disk.facts (with_slots c.self.inside.registry c.self.inside.slots) (with_slots c.self.inside.registry slots) c.args.slot (Refused NoSuchBinder)) (sym same)
    (uncancelled_in g.D.Disk.facts c.self.inside.registry c.self.inside.slots c.args.slot none))
