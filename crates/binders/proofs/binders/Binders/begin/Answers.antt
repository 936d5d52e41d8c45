use Rattle.std.proofs.Common.{◌≡◌, Ok, Some, IsFalse, sym, subst, ◌∙◌}
use Rattle.std.proofs.lemmas.Result.{err_from_is_err_and}
use Rattle.registry.specs.Flying.{Begins}
use Rattle.binders.specs.Slotted.{IsHeld, Slotted, lowest_free}
use Rattle.binders.specs.Stepped.{BeginsIn}
use Rattle.binders.proofs.OnFlights.{with_slots}
use Rattle.binders.proofs.Stepping.{begun_held, begun_in, refused_in}
use Rattle.binders.proofs.binders.Binders.begin.Goals as goal

pub returns-in_err-binder : goal.returns-in_err-binder
returns-in_err-binder g c =
    let usable : IsFalse c.self.inside.registry.failed = sym c.has_failed.ensures.value ∙ c.if-has_failed.false in
    let lowest : lowest_free c.self.inside.slots ≡ Some c.in-Some.slot = sym c.lowest_free.ensures.lowest ∙ c.in-Some.is in
    let p = err_from_is_err_and c.from_residual.result c.from_residual.ensures.1 in
    subst (λ (k : Slotted g.row.D.Denot). BeginsIn g.D.Disk.facts k (with_slots c.begin.new.self c.self.inside.slots) c.args.program.now c.args.base c.from_residual.result) c.self.view_is
    (rw (p.1, p.2) (refused_in g.D.Disk.facts c.self.inside.registry c.begin.new.self c.self.inside.slots c.args.program.now c.args.base c.in_err-binder.field-0.0 usable c.in-Some.slot lowest
    (subst (λ r. Begins g.D.Disk.facts c.self.inside.registry c.begin.new.self c.args.program.now c.args.base r) c.in_err-binder.was c.begin.ensures)))

pub invariant_of-self-2 : goal.invariant_of-self-2
invariant_of-self-2 g c =
    let lowest : lowest_free c.self.inside.slots ≡ Some c.in-Some.slot = sym c.lowest_free.ensures.lowest ∙ c.in-Some.is in
    subst (IsHeld c.begin.new.self) (sym c.put.ensures)
    (begun_held g.D.Disk.facts c.self.inside.registry c.begin.new.self c.self.inside.slots c.args.program.now c.args.base c.in_ok-binder.binder c.in-Some.slot lowest
    (subst (λ r. Begins g.D.Disk.facts c.self.inside.registry c.begin.new.self c.args.program.now c.args.base r) c.in_ok-binder.was c.begin.ensures) c.self.invariant)

pub returns : goal.returns
returns g c =
    let lowest : lowest_free c.self.inside.slots ≡ Some c.in-Some.slot = sym c.lowest_free.ensures.lowest ∙ c.in-Some.is in
    subst (λ (k : Slotted g.row.D.Denot). BeginsIn g.D.Disk.facts k (with_slots c.begin.new.self c.put.new.self) c.args.program.now c.args.base (Ok c.in-Some.slot)) c.self.view_is
    (subst (λ slots. BeginsIn g.D.Disk.facts (with_slots c.self.inside.registry c.self.inside.slots)
    (with_slots c.begin.new.self slots) c.args.program.now c.args.base (Ok c.in-Some.slot)) (sym c.put.ensures)
    (begun_in g.D.Disk.facts c.self.inside.registry c.begin.new.self c.self.inside.slots c.args.program.now c.args.base c.in_ok-binder.binder c.in-Some.slot lowest
    (subst (λ r. Begins g.D.Disk.facts c.self.inside.registry c.begin.new.self c.args.program.now c.args.base r) c.in_ok-binder.was c.begin.ensures)))
