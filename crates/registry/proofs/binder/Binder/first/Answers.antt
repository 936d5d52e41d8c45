use Rattle.std.proofs.Common.{ℕ, List, refl, sym, ap, subst, ◌∙◌}
use Rattle.image.specs.Refusal.{IsProgramAnswer, program_refusal}
use Rattle.registry.specs.Flying.{Flies, IsStep}
use Rattle.registry.specs.inside.Binding.{Binding, found_of}
use Rattle.registry.specs.inside.Walked.{IsWalked}
use Rattle.registry.proofs.Flights.{flies_offers, refused_at_first, started}
use Rattle.registry.proofs.binder.Binder.first.Goals as goal

pub returns-in-Ok-clause-step : goal.returns-in-Ok-clause-step
returns-in-Ok-clause-step g c flight flies =
    let before : Binding = record { program = c.self.inside.program.items; base = c.self.inside.base; snapshot = c.self.inside.snapshot; found = found_of c.self.inside.walk } in
    let here : Flies g.D.Disk.facts c.args.store.now before flight = subst (λ (b : Binding). Flies g.D.Disk.facts c.args.store.now b flight) (sym c.self.view_is) flies in
    started g.D.Disk.facts c.args.store.now before flight here (ap (λ (b : Binding). b.found) c.self.view_is ∙ c.requires) c.in-Ok.walk.needs c.in-Ok.walk.files.items
    (ap (λ (p : List ℕ). program_refusal p c.self.inside.base) (sym c.deref.ensures.value) ∙ c.in-Ok.ensures.accepted)
    c.in-Ok.ensures.none
    (subst (λ (p : List ℕ). IsWalked p flight.state c.in-Ok.walk.needs c.in-Ok.walk.files.items) c.deref.ensures.value
    (c.in-Ok.ensures.ok here.taken.entries flight.state (flies_offers g.D.Disk.facts here (g.met.D.Disk.holds_now here.taken.disk) _ refl)))

pub returns-in-Err-clause-step : goal.returns-in-Err-clause-step
returns-in-Err-clause-step g c flight flies =
    let before : Binding = record { program = c.self.inside.program.items; base = c.self.inside.base; snapshot = c.self.inside.snapshot; found = found_of c.self.inside.walk } in
    let here : Flies g.D.Disk.facts c.args.store.now before flight = subst (λ (b : Binding). Flies g.D.Disk.facts c.args.store.now b flight) (sym c.self.view_is) flies in
    subst (λ (b : Binding). IsStep g.D.Disk.facts c.args.store.now c.args.store.now flight b c.refused.result) c.self.view_is
    (rw c.refused.ensures.value (refused_at_first g.D.Disk.facts c.args.store.now before flight here (ap (λ (b : Binding). b.found) c.self.view_is ∙ c.requires) c.in-Err.refusal
    (subst (λ (p : List ℕ). IsProgramAnswer p c.self.inside.base c.in-Err.refusal) c.deref.ensures.value c.in-Err.ensures.refused)))
