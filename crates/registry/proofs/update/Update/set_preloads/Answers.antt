use Rattle.std.proofs.Common.{◌≡◌, ◌≢◌, Err, OnOk, map, refl, sym, ap, subst, ◌∙◌}
use Rattle.std.specs.Option.{option_map}
use Rattle.std.proofs.lemmas.Bool.{false≢true}
use Rattle.std.proofs.lemmas.Result.{err_from_is_err_and, on_ok_weaker}
use Rattle.states.specs.Changes.{with_preloads}
use Rattle.store.specs.Stands.{names_at}
use Rattle.store.specs.Draft.{Drafted, IsDraftedAt, drafted}
use Rattle.store.specs.Step.{refusal_of_change}
use Rattle.requests.specs.Phase.{table_of}
use Rattle.requests.specs.Request.{set_preloads}
use Rattle.requests.specs.Step.{answer_of, refusal_at}
use Rattle.requests.specs.declared.refusal.Refusal.TheVariants.{Device}
use Rattle.requests.specs.declared.reply.Reply.TheVariants.{Refused}
use Rattle.registry.specs.Answered.{IsPreloadsRefusal}
use Rattle.registry.specs.Drafting.{AppliesDraft, draft_phase}
use Rattle.registry.specs.Refusals.{refusal_of}
use Rattle.registry.specs.inside.Drafting.{IsPlanned}
use Rattle.registry.proofs.Applying.{exact_answer, refused_step}
use Rattle.registry.proofs.Changed.{change_ample, change_may, preloads_may}
use Rattle.registry.proofs.Planning.{draft_stays, plan_answered, plan_refusal, planned_in_words, planned_none, preloads_change, refusals_may}
use Rattle.registry.proofs.Tested.{last_change, change_deviceless}
use Rattle.registry.proofs.update.Update.set_preloads.Goals as goal

pub returns-in_err-positions-clause-applied : goal.returns-in_err-positions-clause-applied
returns-in_err-positions-clause-applied g c s d at =
    let p = err_from_is_err_and c.from_residual.result c.from_residual.ensures.1 in
    let facts = g.D.Disk.facts in
    let now = c.args.self.now in
    let old = c.self.inside.draft in
    let here : IsDraftedAt facts old s d = subst (λ u. IsDraftedAt facts u s d) (sym c.self.view_is) at in
    let q = set_preloads (map (λ n. n.now) c.args.names.now) in
    let phase = draft_phase facts old d in
    let e = c.in_err-positions.field-0.0 in
    let tests = c.in_err-positions.ensures in
    let other : e ≢ Device = λ is. tests.device (ap Err is) in
    subst (λ r. AppliesDraft facts now now s d q (answer_of r)) (sym (p.1 ∙ ap Err p.2))
    (subst (λ u. AppliesDraft facts u u s d q (Refused e)) c.self.view_is
    (draft_stays facts here q (Refused e) (plan_refusal phase phase q e other (refused_step phase q e other
    (λ is. false≢true (sym here.stands.usable ∙ tests.reopen.0 (ap Err is))) (λ is. subst IsPreloadsRefusal is tests.refusals) here.stands.usable
    (tests.refused d (s, here) (table_of phase) (refl, refl))))))

pub returns-clause-applied : goal.returns-clause-applied
returns-clause-applied g c s d at =
    let facts = g.D.Disk.facts in
    let old = c.self.inside.draft in
    let new = c.set_preloads.new.self in
    let q = set_preloads (map (λ n. n.now) c.args.names.now) in
    let here : IsDraftedAt facts old s d = subst (λ u. IsDraftedAt facts u s d) (sym c.self.view_is) at in
    let phase = draft_phase facts old d in
    let first = refusal_of_change d in
    let tested : refusal_at phase q ≡ option_map refusal_of first = c.in_ok-positions.ensures.ok d (s, here) (table_of phase) (refl, refl) ∙ last_change phase in
    let done = c.set_preloads.ensures in
    subst (λ u. AppliesDraft facts u new s d q (answer_of c.in_words.result)) c.self.view_is
    (rw c.in_words.ensures (plan_answered facts here q tt first tested c.set_preloads.result (exact_answer first c.set_preloads.result (done.refused s d here)) (change_deviceless d) done.line change_may
    (λ lacks. change_ample c.set_preloads.result done.line.changed.refusals lacks) (subst (λ ns. OnOk c.set_preloads.result (IsDraftedAt facts new s (drafted d (with_preloads ns d))))
    (ap (names_at d.libraries) c.as_slice.ensures.value ∙ c.in_ok-positions.ensures.state d (s, here)) (done.ok s d here))))

pub in_words-requires : goal.in_words-requires
in_words-requires g c = refusals_may change_may c.set_preloads.result c.set_preloads.ensures.line.changed.refusals

pub returns-in_err-positions-clause-on_any_disk : goal.returns-in_err-positions-clause-on_any_disk
returns-in_err-positions-clause-on_any_disk g c =
    let p = err_from_is_err_and c.from_residual.result c.from_residual.ensures.1 in
    let tested = c.in_err-positions.ensures in
    let e = c.in_err-positions.field-0.0 in
    rw (p.1 ∙ ap Err p.2) (subst (λ (u : Drafted g.row.D.Denot). IsPlanned g.D.Disk.facts u u 0 IsPreloadsRefusal (Err e)) c.self.view_is
    (planned_none g.D.Disk.facts c.self.inside.draft e tested.reopen tested.device tested.refusals))

pub returns-clause-on_any_disk : goal.returns-clause-on_any_disk
returns-clause-on_any_disk g c =
    let facts = g.D.Disk.facts in
    subst (λ u. IsPlanned facts u c.set_preloads.new.self 0 IsPreloadsRefusal c.in_words.result) c.self.view_is
    (rw c.in_words.ensures (planned_in_words facts IsPreloadsRefusal preloads_may c.set_preloads.result c.set_preloads.ensures.line
    (on_ok_weaker c.set_preloads.result (λ touched nothing. preloads_change c.self.inside.draft.touched (sym touched ∙ nothing)) c.set_preloads.ensures.touched)))
