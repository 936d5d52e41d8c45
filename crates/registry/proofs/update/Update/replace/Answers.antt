use Rattle.std.proofs.Common.{◌≡◌, ◌+◌, length, false, not, IsTrue, IsFalse, sym, ap, subst, ◌∙◌}
use Rattle.std.specs.Int.{div_ceil}
use Rattle.std.proofs.lemmas.Bool.{false≢true}
use Rattle.std.proofs.lemmas.Result.{err_from_is_err_and, on_ok_weaker}
use Rattle.sector_disk.specs.Disk.{sector_bytes}
use Rattle.states.specs.State.{has_name, names_of}
use Rattle.store.specs.Draft.{Drafted, IsDraftedAt}
use Rattle.requests.specs.Reading.{IsLibraryRefusal}
use Rattle.requests.specs.Request.{replace}
use Rattle.requests.specs.Step.{answer_of}
use Rattle.requests.specs.declared.refusal.Refusal.TheVariants.{NotInstalled}
use Rattle.registry.specs.Answered.{IsReplaceRefusal}
use Rattle.registry.specs.Drafting.{AppliesDraft}
use Rattle.registry.specs.inside.Drafting.{IsPlanned}
use Rattle.registry.proofs.Changed.{library_refused, replace_may}
use Rattle.registry.proofs.Forms.{file_size}
use Rattle.registry.proofs.Planning.{plan_no_replace, plan_lacking, plan_replaced, planned_in_words, planned_refused, planned_reopen, refusals_may}
use Rattle.registry.proofs.Putting.{has_position, installed, over_is_new}
use Rattle.registry.proofs.States.{same_sectors}
use Rattle.registry.proofs.update.Update.replace.Goals as goal

pub returns-then-has_failed-clause-applied : goal.returns-then-has_failed-clause-applied
returns-then-has_failed-clause-applied g c s d at =
    absurd (false≢true (sym (subst (λ (u : Drafted g.row.D.Denot). IsFalse u.store.failed) (sym c.self.view_is) at.stands.usable) ∙ sym c.has_failed.ensures ∙ c.if-has_failed.true))

pub returns-in_err-name-clause-applied : goal.returns-in_err-name-clause-applied
returns-in_err-name-clause-applied g c s d at =
    let p = err_from_is_err_and c.from_residual.result c.from_residual.ensures.1 in
    let is = subst (IsLibraryRefusal c.args.bytes.now) (sym p.2) c.in_err-name.ensures.refused in
    rw p.1 (plan_no_replace g.D.Disk.facts at c.args.bytes.now p.0 is (library_refused c.args.bytes.now p.0 is).1)

pub returns-then-is_none-clause-applied : goal.returns-then-is_none-clause-applied
returns-then-is_none-clause-applied g c s d at =
    let here : IsDraftedAt g.D.Disk.facts c.self.inside.draft s d = subst (λ u. IsDraftedAt g.D.Disk.facts u s d) (sym c.self.view_is) at in
    let found : has_name (names_of d.libraries) c.in_ok-name.name.now ≡ false =
    installed d c.in_ok-name.name.now c.position.result (c.position.ensures.state s d here) ∙ c.is_none.ensures ∙ ap not c.if-is_none.true in
    plan_lacking g.D.Disk.facts at c.args.bytes.now c.in_ok-name.ensures.ok c.in_ok-name.name.now c.in_ok-name.ensures.name found

pub put_over-requires-clause-present : goal.put_over-requires-clause-present
put_over-requires-clause-present g c =
    let found = has_position c.position.result (c.is_none.ensures ∙ ap not c.if-is_none.false) c.position.ensures.some in
    (found.0, record { inside = found.1.0; named = λ d. found.1.1 d })

pub put_over-requires-clause-size : goal.put_over-requires-clause-size
put_over-requires-clause-size g c = file_size (record { name = c.in_ok-name.name.now; bytes = c.args.bytes.now }) c.in_ok-name.ensures.library

pub returns-clause-applied : goal.returns-clause-applied
returns-clause-applied g c s d at =
    let facts = g.D.Disk.facts in
    let old = c.self.inside.draft in
    let here : IsDraftedAt facts old s d = subst (λ u. IsDraftedAt facts u s d) (sym c.self.view_is) at in
    let name = c.in_ok-name.name.now in
    let put = c.put_over.ensures in
    subst (λ u. AppliesDraft facts u c.put_over.new.self s d (replace c.args.bytes.now) (answer_of c.in_words.result)) c.self.view_is
    (rw c.in_words.ensures (plan_replaced facts here c.args.bytes.now c.in_ok-name.ensures.ok name c.in_ok-name.ensures.name
    (same_sectors facts old.store s here.stands (λ honest. g.met.D.Disk.holds_now _ honest)) c.in_ok-name.ensures.memory c.put_over.result
    (installed d name c.position.result (c.position.ensures.state s d here) ∙ c.is_none.ensures ∙ ap not c.if-is_none.false)
    (put.refused s d here) put.line (put.ok s d here)))

pub in_words-requires : goal.in_words-requires
in_words-requires g c = refusals_may over_is_new c.put_over.result c.put_over.ensures.line.changed.refusals

pub returns-then-has_failed-clause-on_any_disk : goal.returns-then-has_failed-clause-on_any_disk
returns-then-has_failed-clause-on_any_disk g c =
    planned_reopen g.D.Disk.facts c.args.self.now (subst (λ (u : Drafted g.row.D.Denot). IsTrue u.store.failed) c.self.view_is (sym c.has_failed.ensures ∙ c.if-has_failed.true)) tt

pub returns-in_err-name-clause-on_any_disk : goal.returns-in_err-name-clause-on_any_disk
returns-in_err-name-clause-on_any_disk g c =
    let p = err_from_is_err_and c.from_residual.result c.from_residual.ensures.1 in
    let is = library_refused c.args.bytes.now p.0 (subst (IsLibraryRefusal c.args.bytes.now) (sym p.2) c.in_err-name.ensures.refused) in
    let usable : IsFalse c.args.self.now.store.failed = subst (λ (u : Drafted g.row.D.Denot). IsFalse u.store.failed) c.self.view_is (sym c.has_failed.ensures ∙ c.if-has_failed.false) in
    rw p.1 (planned_refused g.D.Disk.facts c.args.self.now p.0 usable is.0 is.1 is.3)

pub returns-then-is_none-clause-on_any_disk : goal.returns-then-is_none-clause-on_any_disk
returns-then-is_none-clause-on_any_disk g c =
    let usable : IsFalse c.args.self.now.store.failed = subst (λ (u : Drafted g.row.D.Denot). IsFalse u.store.failed) c.self.view_is (sym c.has_failed.ensures ∙ c.if-has_failed.false) in
    planned_refused g.D.Disk.facts c.args.self.now NotInstalled usable (λ is. cc) (λ is. cc) tt

pub returns-clause-on_any_disk : goal.returns-clause-on_any_disk
returns-clause-on_any_disk g c =
    let facts = g.D.Disk.facts in
    subst (λ u. IsPlanned facts u c.put_over.new.self (div_ceil (length c.args.bytes.now) sector_bytes + 1) IsReplaceRefusal c.in_words.result) c.self.view_is
    (rw c.in_words.ensures (planned_in_words facts IsReplaceRefusal replace_may c.put_over.result c.put_over.ensures.line
    (on_ok_weaker c.put_over.result (λ placed nothing. absurd (cc (placed.touched, nothing))) c.put_over.ensures.placed)))
