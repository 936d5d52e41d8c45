use Rattle.std.proofs.Common.{ℕ, List, Option, Some, Ok, Err, refl, sym, subst}
use Rattle.store.proofs.IsReadLemmas.{read_none}
use Rattle.store.proofs.UsedAlone.{no_entry}
use Rattle.store.specs.declared.refusal.StoreRefusal.{StoreRefusal}
use Rattle.registry.specs.Flying.{Flies, IsStep}
use Rattle.registry.specs.declared.walk.Walk.{Walk}
use Rattle.registry.specs.inside.Binding.{Binding, IsReadyFor, found_of}
use Rattle.registry.specs.inside.Stepping.{unread_step}
use Rattle.registry.specs.inside.Walked.{IsBoundBy}
use Rattle.registry.proofs.Flights.{bound_at_last, flies_offers, gone_on, next_library, refused_at_last, unread_on, with_found}
use Rattle.registry.proofs.binder.Binder.step.Goals.{in-Ok, in-Err, in-Ok-step, in-Err-step}
use Rattle.registry.proofs.binder.Binder.step.Goals as goal

pub returns-then-not-has_next-clause-step : goal.returns-then-not-has_next-clause-step
returns-then-not-has_next-clause-step g c flight flies =
    let facts = g.D.Disk.facts in
    let whole = λ (o : Option Walk). let b : Binding = record { program = c.self.inside.program.items; base = c.self.inside.base; snapshot = c.self.inside.snapshot; found = found_of o } in b in
    let walk : Walk = c.in-Some.walk in
    let here : Flies facts c.args.store.now (whole (Some walk)) flight =
    subst (λ (o : Option Walk). Flies facts c.args.store.now (whole o) flight) c.in-Some.is
    (subst (λ (b : Binding). Flies facts c.args.store.now b flight) (sym c.self.view_is) flies) in
    let holds = g.met.D.Disk.holds_now here.taken.disk in
    let outside = c.if-not-has_next.ensures.no refl in
    elim c.match-answer.branch [
      | in-Ok w ↦ rw w.result-is (bound_at_last facts c.args.store.now (whole (Some walk)) flight here holds walk.needs walk.files.items refl outside w.in-Ok.image
          (subst (λ (p : List ℕ). IsBoundBy p c.self.inside.base walk.needs.missing walk.files.items (Ok w.in-Ok.image)) c.deref.ensures.value w.in-Ok.ensures))
      | in-Err w ↦ rw w.result-is (rw w.refused.ensures.value
          (refused_at_last facts c.args.store.now (whole (Some walk)) flight here holds walk.needs walk.files.items refl outside w.in-Err.refusal
          (subst (λ (p : List ℕ). IsBoundBy p c.self.inside.base walk.needs.missing walk.files.items (Err w.in-Err.refusal)) c.deref.ensures.value w.in-Err.ensures).tested.refused))
    ]

pub returns-clause-step : goal.returns-clause-step
returns-clause-step g c flight flies =
    let facts = g.D.Disk.facts in
    let whole = λ (o : Option Walk). let b : Binding = record { program = c.self.inside.program.items; base = c.self.inside.base; snapshot = c.self.inside.snapshot; found = found_of o } in b in
    let walk : Walk = c.in-Some.walk in
    let here : Flies facts c.args.store.now (whole (Some walk)) flight =
    subst (λ (o : Option Walk). Flies facts c.args.store.now (whole o) flight) c.in-Some.is
    (subst (λ (b : Binding). Flies facts c.args.store.now b flight) (sym c.self.view_is) flies) in
    let holds = g.met.D.Disk.holds_now here.taken.disk in
    let offers = flies_offers facts here holds _ refl in
    elim c.match-step.branch [
      | in-Ok-step w ↦
          let next = w.in-Ok-step.ensures.next in
          rw w.result-is (gone_on facts c.args.store.now (whole (Some walk)) flight here holds walk.needs walk.files.items refl
          c.step.new.store c.step.ensures.read c.if-not-has_next.ensures.apart (c.if-not-has_next.ensures.yes refl) next.file (next.is flight.state offers.files)
          c.step.new.self.needs c.step.new.self.files.items next.behind (w.in-Ok-step.ensures.walked c.self.inside.program.items here.taken.entries flight.state offers here.come.1)
          (next.calls here.taken.entries offers.has))
      | in-Err-step w ↦
          let same = w.in-Err-step.ensures.same in
          let e : StoreRefusal = w.in-Err-step.refusal in
          rw w.result-is (rw w.unread.ensures.value
          (subst (λ (k : Binding). IsStep facts c.args.store.now c.step.new.store flight k (unread_step e))
          (λ i. with_found (whole (Some walk)) (sym same.0 i) (sym same.1 i))
          (unread_on facts c.args.store.now
          (whole (Some walk)) flight here holds walk.needs walk.files.items refl c.step.new.store c.step.ensures.read
          c.if-not-has_next.ensures.apart (c.if-not-has_next.ensures.yes refl)
          (c.step.ensures.calls here.taken.entries offers.has no_entry) e w.in-Err-step.ensures.refusals
          (λ is. w.in-Err-step.ensures.damaged flight.state offers.files is
          (next_library facts c.args.store.now
          (whole (Some walk)) flight here holds walk.needs walk.files.items refl c.step.new.store c.step.ensures.read
          c.if-not-has_next.ensures.apart (c.if-not-has_next.ensures.yes refl))))))
    ]

pub returns-then-not-has_next-clause-read : goal.returns-then-not-has_next-clause-read
returns-then-not-has_next-clause-read g c = read_none c.args.store.now

pub returns-clause-read : goal.returns-clause-read
returns-clause-read g c = c.step.ensures.read

pub step-requires-clause-among : goal.step-requires-clause-among
step-requires-clause-among g c =
    let binder : Binding = record { program = c.self.inside.program.items; base = c.self.inside.base; snapshot = c.self.inside.snapshot; found = found_of c.self.inside.walk } in
    (subst (λ (o : Option Walk). IsReadyFor binder (found_of o)) c.in-Some.is c.self.invariant).1

pub returns-in_default-clause-read : goal.returns-in_default-clause-read
returns-in_default-clause-read g c = read_none c.args.store.now
