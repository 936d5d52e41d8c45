use Rattle.std.proofs.Common.{◌≡◌, ◌+◌, ◌-◌, length, Err, Some, refl, sym, ap, subst, ◌∙◌}
use Rattle.std.proofs.lemmas.Bool.{false≢true}
use Rattle.std.specs.Option.{option_map}
use Rattle.std.proofs.lemmas.Result.{err_from_is_err_and}
use Rattle.states.specs.Changes.{without}
use Rattle.store.specs.Step.{refusal_of_change}
use Rattle.requests.specs.Request.{remove}
use Rattle.requests.specs.Phase.{table_of}
use Rattle.requests.specs.Step.{answer_of, refusal_at}
use Rattle.requests.specs.declared.reply.Reply.TheVariants.{Refused}
use Rattle.registry.specs.Untested.{AppliesUntested}
use Rattle.store.specs.Opened.{IsAt}
use Rattle.registry.specs.Phase.{phase_of}
use Rattle.registry.specs.Refusals.{refusal_of}
use Rattle.registry.proofs.Applying.{change_step, exact_answer, refused_step, store_changed, untouched}
use Rattle.registry.proofs.Changed.{change_ample, change_may}
use Rattle.registry.proofs.Tested.{last_change, change_deviceless}
use Rattle.store.specs.Holds.{KeepsHeld}
use Rattle.registry.proofs.Keeping.{keeps_held_same}
use Rattle.states.specs.Cost.{catalogues_for}
use Rattle.store.specs.Changed.{Changed}
use Rattle.store.specs.Opened.{Opened}
use Rattle.requests.specs.declared.refusal.Refusal.TheVariants.{Device, Reopen}
use Rattle.registry.specs.Answered.{IsRemoveRefusal}
use Rattle.registry.proofs.Changed.{changed_in_words, changed_none, remove_may}
use Rattle.registry.proofs.registry.Registry.remove.Goals as goal

pub returns-in_err-test_remove-clause-applied : goal.returns-in_err-test_remove-clause-applied
returns-in_err-test_remove-clause-applied g c s at =
    let p = err_from_is_err_and c.from_residual.result c.from_residual.ensures.1 in
    let facts = g.D.Disk.facts in
    let now = c.args.self.now in
    let store = c.self.inside.store in
    let here : IsAt facts store s = subst (λ r. IsAt facts r s) (sym c.self.view_is) at in
    let q = remove c.args.name.now in
    let e = c.in_err-test_remove.field-0.0 in
    let tests = c.in_err-test_remove.ensures in
    let first : refusal_at (phase_of facts now s) q ≡ Some e = subst (λ (r : Opened g.row.D.Denot). refusal_at (phase_of facts r s) q ≡ Some e) c.self.view_is
    (tests.refused s here (table_of (phase_of facts store s)) (refl, refl)) in
    subst (λ r. AppliesUntested facts now now s q (answer_of r)) (sym (p.1 ∙ ap Err p.2))
    (untouched facts now s at q (Refused e) (change_step q tt (phase_of facts now s) (phase_of facts now s) (Refused e) (refused_step (phase_of facts now s) q e (λ is. tests.device (ap Err is))
    (λ is. false≢true (sym here.usable ∙ tests.reopen.0 (ap Err is))) (λ is. subst IsRemoveRefusal is tests.refusals) at.usable first)))

pub returns-clause-applied : goal.returns-clause-applied
returns-clause-applied g c s at =
    let facts = g.D.Disk.facts in
    let old = c.self.inside.store in
    let new = c.delete.new.self in
    let q = remove c.args.name.now in
    let here : IsAt facts old s = subst (λ r. IsAt facts r s) (sym c.self.view_is) at in
    let first = refusal_of_change s in
    let tested : refusal_at (phase_of facts old s) q ≡ option_map refusal_of first =
    c.in_ok-test_remove.ensures.ok s here (table_of (phase_of facts old s)) (refl, refl) ∙ last_change (phase_of facts old s) in
    let done = c.delete.ensures in
    subst (λ r. AppliesUntested facts r new s q (answer_of c.in_words.result)) c.self.view_is
    (rw c.in_words.ensures (store_changed facts old new s here q tt first tested (change_deviceless s) (without c.args.name.now s) refl (done.any_moment s here) c.delete.result
    (exact_answer first c.delete.result (done.refused s here)) done.on_any_disk change_may (change_ample c.delete.result done.on_any_disk.refusals) (done.ok s here)))

pub returns-in_err-test_remove-clause-held : goal.returns-in_err-test_remove-clause-held
returns-in_err-test_remove-clause-held g c = keeps_held_same g.D.Disk.facts c.args.self.now

pub returns-clause-held : goal.returns-clause-held
returns-clause-held g c = subst (λ k. KeepsHeld g.D.Disk.facts k c.delete.new.self) c.self.view_is c.delete.ensures.held

pub returns-in_err-test_remove-clause-on_any_disk : goal.returns-in_err-test_remove-clause-on_any_disk
returns-in_err-test_remove-clause-on_any_disk g c =
    let p = err_from_is_err_and c.from_residual.result c.from_residual.ensures.1 in
    let tested = c.in_err-test_remove.ensures in
    let e = c.in_err-test_remove.field-0.0 in
    rw (p.1 ∙ ap Err p.2) (subst (λ (k : Opened g.row.D.Denot). Changed g.D.Disk.facts Device Reopen k k (catalogues_for (length k.entries - 1) + 3) IsRemoveRefusal (Err e)) c.self.view_is
    (changed_none g.D.Disk.facts c.self.inside.store e tested.reopen tested.device tested.refusals))

pub returns-clause-on_any_disk : goal.returns-clause-on_any_disk
returns-clause-on_any_disk g c =
    let facts = g.D.Disk.facts in
    let changed = λ (k : Opened g.row.D.Denot). Changed facts Device Reopen k c.delete.new.self (catalogues_for (length k.entries - 1) + 3) IsRemoveRefusal c.in_words.result in
    subst changed c.self.view_is (rw c.in_words.ensures (changed_in_words facts IsRemoveRefusal remove_may c.delete.result c.delete.ensures.on_any_disk))
