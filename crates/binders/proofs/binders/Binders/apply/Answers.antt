use Rattle.std.proofs.Common.{IsTrue, sym, subst, ◌∙◌}
use Rattle.states.specs.State.{State}
use Rattle.requests.specs.Request.{request_of}
use Rattle.sector_disk.specs.Disk.{AreCallsExactly}
use Rattle.registry.specs.Applied.{Applies}
use Rattle.registry.specs.Calls.{IfAccepted, calls_of}
use Rattle.registry.specs.Opened.{IsAt}
use Rattle.registry.proofs.Flights.{flies_kept}
use Rattle.binders.specs.Counted.{CountsOnce}
use Rattle.binders.specs.Slotted.{HoldAlone, Slotted}
use Rattle.binders.specs.Stepped.{FlyOn}
use Rattle.binders.proofs.Counting.{counts_once}
use Rattle.binders.proofs.OnFlights.{are_on_moved, with_slots}
use Rattle.binders.proofs.binders.Binders.apply.Goals as goal

pub returns-clause-applied : goal.returns-clause-applied
returns-clause-applied g c =
    subst (λ (k : Slotted g.row.D.Denot). (s : State) → IsAt g.D.Disk.facts k.registry s
    → Applies g.D.Disk.facts k.registry c.apply.new.self s (request_of c.args.command.now) c.apply.result) c.self.view_is c.apply.ensures.applied

pub returns-clause-all_calls : goal.returns-clause-all_calls
returns-clause-all_calls g c =
    let facts = g.D.Disk.facts in
    subst (λ (k : Slotted g.row.D.Denot). (s : State) → IsAt facts k.registry s
    → IfAccepted c.apply.result (AreCallsExactly (calls_of s (request_of c.args.command.now)) (facts k.registry.disk)
    (facts c.apply.new.self.disk))) c.self.view_is
    (λ s at. c.apply.ensures.all_calls s at.stored)

pub returns-clause-fly_on : goal.returns-clause-fly_on
returns-clause-fly_on g c =
    let kept = c.apply.ensures.on_any_disk.did in
    subst (λ (k : Slotted g.row.D.Denot). FlyOn g.D.Disk.facts k (with_slots c.apply.new.self c.self.inside.slots)) c.self.view_is
    (λ flights on. are_on_moved g.D.Disk.facts c.self.inside.registry c.apply.new.self c.self.inside.slots flights
    (λ b f flies. flies_kept g.D.Disk.facts flies c.apply.new.self kept.held (λ honest. subst IsTrue (sym kept.calls.honest) honest)) on)

pub returns-clause-alone : goal.returns-clause-alone
returns-clause-alone g c =
    subst (λ (k : Slotted g.row.D.Denot). HoldAlone k → HoldAlone (with_slots c.apply.new.self c.self.inside.slots)) c.self.view_is
    (λ alone sector. c.apply.ensures.on_any_disk.did.held.holders sector ∙ alone sector)

pub returns-clause-counted : goal.returns-clause-counted
returns-clause-counted g c =
    subst (λ (k : Slotted g.row.D.Denot). HoldAlone k → CountsOnce k) c.self.view_is
    (counts_once (with_slots c.self.inside.registry c.self.inside.slots) c.holds_are_sound.ensures)
