use Rattle.std.proofs.Common.{◌≡◌, List, Option, None, Some, Err, Ok, get_or, set, sym, ap, subst, ◌∙◌}
use Rattle.std.proofs.lemmas.List.{set-get_or}
use Rattle.requests.specs.declared.refusal.Refusal.TheVariants.{NoSuchBinder}
use Rattle.registry.specs.Flying.{Advances}
use Rattle.registry.specs.declared.binder.Step.TheVariants.{Going, Final}
use Rattle.registry.specs.inside.Binding.{Binding}
use Rattle.binders.specs.Slotted.{IsHeld, Slotted}
use Rattle.binders.specs.Stepped.{AdvancesIn}
use Rattle.binders.proofs.OnFlights.{set_twice, with_slots}
use Rattle.binders.proofs.Stepping.{absent_in, again_in, final_in, going_in, stepped_held}
use Rattle.binders.proofs.binders.Binders.advance.Goals as goal

pub returns-in_default : goal.returns-in_default
returns-in_default g c =
    let slots : List (Option Binding) = c.self.inside.slots in
    let none : get_or slots c.args.slot None ≡ None = sym c.take.ensures.taken ∙ c.in_default.is in
    let same : c.take.new.self ≡ slots = c.take.ensures.free ∙ ap (λ o. set slots c.args.slot o) (sym none) ∙ set-get_or slots c.args.slot None in
    subst (λ (k : Slotted g.row.D.Denot). AdvancesIn g.D.Disk.facts k (with_slots c.self.inside.registry c.take.new.self) c.args.slot (Err NoSuchBinder)) c.self.view_is
    (subst (λ l. AdvancesIn g.D.Disk.facts (with_slots c.self.inside.registry slots) (with_slots c.self.inside.registry l) c.args.slot (Err NoSuchBinder)) (sym same)
    (absent_in g.D.Disk.facts c.self.inside.registry slots c.args.slot none))

pub invariant_of-self-in-Ok-Going : goal.invariant_of-self-in-Ok-Going
invariant_of-self-in-Ok-Going g c =
    let slots : List (Option Binding) = c.self.inside.slots in
    let there : get_or slots c.args.slot None ≡ Some c.in-Some.taken = sym c.take.ensures.taken ∙ c.in-Some.is in
    let put : c.put.new.self ≡ set slots c.args.slot (Some c.advance.new.binder) = c.put.ensures
    ∙ ap (λ l. set l c.args.slot (Some c.advance.new.binder)) c.take.ensures.free
    ∙ set_twice slots c.args.slot None (Some c.advance.new.binder) in
    subst (IsHeld c.advance.new.self) (sym put)
    (stepped_held g.D.Disk.facts c.self.inside.registry slots c.args.slot c.in-Some.taken there c.advance.new.self c.advance.new.binder c.advance.result c.advance.ensures c.self.invariant)

pub invariant_of-self-in-Err : goal.invariant_of-self-in-Err
invariant_of-self-in-Err g c =
    let slots : List (Option Binding) = c.self.inside.slots in
    let there : get_or slots c.args.slot None ≡ Some c.in-Some.taken = sym c.take.ensures.taken ∙ c.in-Some.is in
    let put : c.put-in-Err.new.self ≡ set slots c.args.slot (Some c.advance.new.binder) = c.put-in-Err.ensures
    ∙ ap (λ l. set l c.args.slot (Some c.advance.new.binder)) c.take.ensures.free
    ∙ set_twice slots c.args.slot None (Some c.advance.new.binder) in
    subst (IsHeld c.advance.new.self) (sym put)
    (stepped_held g.D.Disk.facts c.self.inside.registry slots c.args.slot c.in-Some.taken there c.advance.new.self c.advance.new.binder c.advance.result c.advance.ensures c.self.invariant)

pub returns-in-Ok-Final : goal.returns-in-Ok-Final
returns-in-Ok-Final g c =
    let slots : List (Option Binding) = c.self.inside.slots in
    let there : get_or slots c.args.slot None ≡ Some c.in-Some.taken = sym c.take.ensures.taken ∙ c.in-Some.is in
    subst (λ (k : Slotted g.row.D.Denot). AdvancesIn g.D.Disk.facts k (with_slots c.end.new.self c.take.new.self) c.args.slot (Ok (Final c.in-Ok-Final.answer))) c.self.view_is
    (subst (λ l. AdvancesIn g.D.Disk.facts (with_slots c.self.inside.registry slots) (with_slots c.end.new.self l) c.args.slot (Ok (Final c.in-Ok-Final.answer))) (sym c.take.ensures.free)
    (final_in g.D.Disk.facts c.self.inside.registry slots c.args.slot c.in-Some.taken there c.advance.new.self c.end.new.self c.advance.new.binder c.in-Ok-Final.answer c.self.invariant
    (subst (λ r. Advances g.D.Disk.facts c.self.inside.registry c.advance.new.self c.in-Some.taken c.advance.new.binder r)
    (c.in-Ok-Final.is ∙ ap (λ r. Ok r) c.in-Ok-Final.field-0-is) c.advance.ensures) c.end.ensures))

pub returns-in-Ok-Going : goal.returns-in-Ok-Going
returns-in-Ok-Going g c =
    let slots : List (Option Binding) = c.self.inside.slots in
    let there : get_or slots c.args.slot None ≡ Some c.in-Some.taken = sym c.take.ensures.taken ∙ c.in-Some.is in
    let put : c.put.new.self ≡ set slots c.args.slot (Some c.advance.new.binder) = c.put.ensures
    ∙ ap (λ l. set l c.args.slot (Some c.advance.new.binder)) c.take.ensures.free
    ∙ set_twice slots c.args.slot None (Some c.advance.new.binder) in
    subst (λ (k : Slotted g.row.D.Denot). AdvancesIn g.D.Disk.facts k (with_slots c.advance.new.self c.put.new.self) c.args.slot (Ok Going)) c.self.view_is
    (subst (λ l. AdvancesIn g.D.Disk.facts (with_slots c.self.inside.registry slots) (with_slots c.advance.new.self l) c.args.slot (Ok Going)) (sym put)
    (going_in g.D.Disk.facts c.self.inside.registry slots c.args.slot c.in-Some.taken there c.advance.new.self c.advance.new.binder c.advance.result
    c.advance.ensures (c.in-Ok-Going.is ∙ ap (λ r. Ok r) c.in-Ok-Going.field-0-is)))

pub returns-in-Err : goal.returns-in-Err
returns-in-Err g c =
    let slots : List (Option Binding) = c.self.inside.slots in
    let there : get_or slots c.args.slot None ≡ Some c.in-Some.taken = sym c.take.ensures.taken ∙ c.in-Some.is in
    let put : c.put-in-Err.new.self ≡ set slots c.args.slot (Some c.advance.new.binder) = c.put-in-Err.ensures
    ∙ ap (λ l. set l c.args.slot (Some c.advance.new.binder)) c.take.ensures.free
    ∙ set_twice slots c.args.slot None (Some c.advance.new.binder) in
    subst (λ (k : Slotted g.row.D.Denot). AdvancesIn g.D.Disk.facts k (with_slots c.advance.new.self c.put-in-Err.new.self) c.args.slot (Err c.in-Err.refusal)) c.self.view_is
    (subst (λ l. AdvancesIn g.D.Disk.facts (with_slots c.self.inside.registry slots) (with_slots c.advance.new.self l) c.args.slot (Err c.in-Err.refusal)) (sym put)
    (again_in g.D.Disk.facts c.self.inside.registry slots c.args.slot c.in-Some.taken there c.advance.new.self c.advance.new.binder c.advance.result c.advance.ensures c.in-Err.refusal c.in-Err.is))
