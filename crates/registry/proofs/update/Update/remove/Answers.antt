use Rattle.std.proofs.Common.{◌≡◌, ◌≢◌, Err, refl, sym, ap, subst, ◌∙◌}
use Rattle.std.specs.Option.{option_map}
use Rattle.std.proofs.lemmas.Bool.{false≢true}
use Rattle.std.proofs.lemmas.Result.{err_from_is_err_and, on_ok_weaker}
use Rattle.store.specs.Draft.{Drafted, IsDraftedAt}
use Rattle.store.specs.Step.{refusal_of_change}
use Rattle.requests.specs.Phase.{table_of}
use Rattle.requests.specs.Request.{remove}
use Rattle.requests.specs.Step.{answer_of, refusal_at}
use Rattle.requests.specs.declared.refusal.Refusal.TheVariants.{Device}
use Rattle.requests.specs.declared.reply.Reply.TheVariants.{Refused}
use Rattle.registry.specs.Answered.{IsRemoveRefusal}
use Rattle.registry.specs.Drafting.{AppliesDraft, draft_phase}
use Rattle.registry.specs.Refusals.{refusal_of}
use Rattle.registry.specs.inside.Drafting.{IsPlanned}
use Rattle.registry.proofs.Applying.{exact_answer, refused_step}
use Rattle.registry.proofs.Changed.{change_ample, change_may, remove_may}
use Rattle.registry.proofs.Planning.{draft_stays, plan_answered, plan_refusal, planned_in_words, planned_none, refusals_may}
use Rattle.registry.proofs.Tested.{last_change, change_deviceless}
use Rattle.registry.proofs.update.Update.remove.Goals as goal

pub returns-in_err-test_remove-clause-applied : goal.returns-in_err-test_remove-clause-applied
returns-in_err-test_remove-clause-applied g c s d at =
    let p = err_from_is_err_and c.from_residual.result c.from_residual.ensures.1 in
    let facts = g.D.Disk.facts in
    let now = c.args.self.now in
    let old = c.self.inside.draft in
    let here : IsDraftedAt facts old s d = subst (λ u. IsDraftedAt facts u s d) (sym c.self.view_is) at in
    let q = remove c.args.name.now in
    let phase = draft_phase facts old d in
    let e = c.in_err-test_remove.field-0.0 in
    let tests = c.in_err-test_remove.ensures in
    let other : e ≢ Device = λ is. tests.device (ap Err is) in
    subst (λ r. AppliesDraft facts now now s d q (answer_of r)) (sym (p.1 ∙ ap Err p.2))
    (subst (λ u. AppliesDraft facts u u s d q (Refused e)) c.self.view_is
    (draft_stays facts here q (Refused e) (plan_refusal phase phase q e other (refused_step phase q e other
    (λ is. false≢true (sym here.stands.usable ∙ tests.reopen.0 (ap Err is))) (λ is. subst IsRemoveRefusal is tests.refusals) here.stands.usable
    (tests.refused d (s, here) (table_of phase) (refl, refl))))))

pub returns-clause-applied : goal.returns-clause-applied
returns-clause-applied g c s d at =
    let facts = g.D.Disk.facts in
    let old = c.self.inside.draft in
    let new = c.delete.new.self in
    let q = remove c.args.name.now in
    let here : IsDraftedAt facts old s d = subst (λ u. IsDraftedAt facts u s d) (sym c.self.view_is) at in
    let phase = draft_phase facts old d in
    let first = refusal_of_change d in
    let tested : refusal_at phase q ≡ option_map refusal_of first = c.in_ok-test_remove.ensures.ok d (s, here) (table_of phase) (refl, refl) ∙ last_change phase in
    let done = c.delete.ensures in
    subst (λ u. AppliesDraft facts u new s d q (answer_of c.in_words.result)) c.self.view_is
    (rw c.in_words.ensures (plan_answered facts here q tt first tested c.delete.result (exact_answer first c.delete.result (done.refused s d here)) (change_deviceless d) done.line change_may
    (λ lacks. change_ample c.delete.result done.line.changed.refusals lacks) (done.ok s d here)))

pub in_words-requires : goal.in_words-requires
in_words-requires g c = refusals_may change_may c.delete.result c.delete.ensures.line.changed.refusals

pub returns-in_err-test_remove-clause-on_any_disk : goal.returns-in_err-test_remove-clause-on_any_disk
returns-in_err-test_remove-clause-on_any_disk g c =
    let p = err_from_is_err_and c.from_residual.result c.from_residual.ensures.1 in
    let tested = c.in_err-test_remove.ensures in
    let e = c.in_err-test_remove.field-0.0 in
    rw (p.1 ∙ ap Err p.2) (subst (λ (u : Drafted g.row.D.Denot). IsPlanned g.D.Disk.facts u u 0 IsRemoveRefusal (Err e)) c.self.view_is
    (planned_none g.D.Disk.facts c.self.inside.draft e tested.reopen tested.device tested.refusals))

pub returns-clause-on_any_disk : goal.returns-clause-on_any_disk
returns-clause-on_any_disk g c =
    let facts = g.D.Disk.facts in
    subst (λ u. IsPlanned facts u c.delete.new.self 0 IsRemoveRefusal c.in_words.result) c.self.view_is
    (rw c.in_words.ensures (planned_in_words facts IsRemoveRefusal remove_may c.delete.result c.delete.ensures.line
    (on_ok_weaker c.delete.result (λ placed nothing. absurd (cc (placed.touched, nothing))) c.delete.ensures.placed)))
