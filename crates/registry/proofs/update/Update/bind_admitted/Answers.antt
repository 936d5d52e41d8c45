use Rattle.std.proofs.Common.{sym, ap, subst, ◌∙◌}
use Rattle.std.proofs.lemmas.Result.{err_from_is_err_and}
use Rattle.image.proofs.Answering.{program-based}
use Rattle.image.specs.Byte.{byte_of}
use Rattle.image.specs.Image.{image_of}
use Rattle.sector_disk.specs.Disk.{AreCallsAtMost, AreCallsExactly}
use Rattle.store.specs.Draft.{IsDraftedAt}
use Rattle.requests.specs.Request.{bind}
use Rattle.requests.specs.declared.reply.Reply.TheVariants.{Refused}
use Rattle.registry.specs.Binding.{bind_sectors}
use Rattle.registry.specs.Drafting.{DraftStep, draft_phase}
use Rattle.registry.specs.declared.walk.Walk.{Walk}
use Rattle.registry.specs.inside.Drafting.{IsDraftReadRefusal, ReadsBeside}
use Rattle.registry.proofs.Bindings.{refusal_same, objects_same, answer_same, refused, bound, unread}
use Rattle.registry.proofs.DraftBinds.{reads_lead}
use Rattle.registry.proofs.update.Update.bind_admitted.Goals as goal

pub returns-in-Err-clause-step : goal.returns-in-Err-clause-step
returns-in-Err-clause-step g c s d at =
    let facts = g.D.Disk.facts in
    let now = c.args.self.now in
    let new = c.read_needed_of.new.draft in
    let read : ReadsBeside facts now new = subst (λ u. ReadsBeside facts u new) c.self.view_is c.read_needed_of.ensures.read in
    let here : IsDraftedAt facts c.self.inside.draft s d = subst (λ u. IsDraftedAt facts u s d) (sym c.self.view_is) at in
    subst (λ r. DraftStep (draft_phase facts now d) (bind c.args.program.now c.args.base) (Refused r) (draft_phase facts new d)) (sym c.refusal_of_read.ensures)
    (unread (draft_phase facts now d) (draft_phase facts new d) at.stands.usable (reads_lead read) c.args.program.now c.args.base c.requires c.in-Err.refusal
    (subst (λ u. IsDraftReadRefusal facts u new c.in-Err.refusal) c.self.view_is c.in-Err.ensures.refusals) (c.in-Err.ensures.damaged s d here))

pub bind_found-requires : goal.bind_found-requires
bind_found-requires g c = program-based c.args.program.now c.args.base c.requires

pub returns-in_err-image-clause-step : goal.returns-in_err-image-clause-step
returns-in_err-image-clause-step g c s d at =
    let facts = g.D.Disk.facts in
    let now = c.args.self.now in
    let new = c.read_needed_of.new.draft in
    let read : ReadsBeside facts now new = subst (λ u. ReadsBeside facts u new) c.self.view_is c.read_needed_of.ensures.read in
    let here : IsDraftedAt facts c.self.inside.draft s d = subst (λ u. IsDraftedAt facts u s d) (sym c.self.view_is) at in
    let walk : Walk = c.in-Ok.walk in
    let p = err_from_is_err_and c.from_residual.result c.from_residual.ensures.1 in
    rw (p.1, p.2) (refused (draft_phase facts now d) (draft_phase facts new d) at.stands.usable (reads_lead read) c.args.program.now c.args.base c.in_err-image.field-0.0
    (answer_same d c.args.program.now c.args.base walk.files.items walk.needs.missing c.requires (c.in-Ok.ensures.ok s d here) (c.in-Ok.ensures.missing s d here)
    c.in_err-image.field-0.0 c.in_err-image.ensures.tested.refused) (λ behind. c.in-Ok.ensures.libraries s d here))

pub returns-clause-step : goal.returns-clause-step
returns-clause-step g c s d at =
    let facts = g.D.Disk.facts in
    let now = c.args.self.now in
    let new = c.read_needed_of.new.draft in
    let read : ReadsBeside facts now new = subst (λ u. ReadsBeside facts u new) c.self.view_is c.read_needed_of.ensures.read in
    let here : IsDraftedAt facts c.self.inside.draft s d = subst (λ u. IsDraftedAt facts u s d) (sym c.self.view_is) at in
    let walk : Walk = c.in-Ok.walk in
    let ordered = c.in-Ok.ensures.ok s d here in
    let lacking = c.in-Ok.ensures.missing s d here in
    let same = objects_same d c.args.program.now c.args.base walk.files.items walk.needs.missing c.requires ordered lacking in
    bound (draft_phase facts now d) (draft_phase facts new d) at.stands.usable (reads_lead read) c.args.program.now c.args.base c.in_ok-image.image
    (refusal_same d c.args.program.now c.args.base walk.files.items walk.needs.missing c.requires ordered lacking ∙ c.in_ok-image.ensures.tested.accepted)
    (c.in_ok-image.ensures.ok ∙ ap image_of same)
    (λ a. c.in_ok-image.ensures.bytes a ∙ ap (λ os. byte_of os a) same) (c.in-Ok.ensures.libraries s d here)

pub returns-in-Err-clause-read : goal.returns-in-Err-clause-read
returns-in-Err-clause-read g c = subst (λ u. ReadsBeside g.D.Disk.facts u c.read_needed_of.new.draft) c.self.view_is c.read_needed_of.ensures.read

pub returns-in_err-image-clause-read : goal.returns-in_err-image-clause-read
returns-in_err-image-clause-read g c = subst (λ u. ReadsBeside g.D.Disk.facts u c.read_needed_of.new.draft) c.self.view_is c.read_needed_of.ensures.read

pub returns-clause-read : goal.returns-clause-read
returns-clause-read g c = subst (λ u. ReadsBeside g.D.Disk.facts u c.read_needed_of.new.draft) c.self.view_is c.read_needed_of.ensures.read

pub returns-in-Err-clause-calls : goal.returns-in-Err-clause-calls
returns-in-Err-clause-calls g c s d at =
    let new = c.read_needed_of.new.draft in
    subst (λ u. AreCallsAtMost (bind_sectors d c.args.program.now) (g.D.Disk.facts u.store.disk) (g.D.Disk.facts new.store.disk)) c.self.view_is
    (c.read_needed_of.ensures.calls s d (subst (λ u. IsDraftedAt g.D.Disk.facts u s d) (sym c.self.view_is) at))

pub returns-in_err-image-clause-calls : goal.returns-in_err-image-clause-calls
returns-in_err-image-clause-calls g c s d at =
    let new = c.read_needed_of.new.draft in
    subst (λ u. AreCallsAtMost (bind_sectors d c.args.program.now) (g.D.Disk.facts u.store.disk) (g.D.Disk.facts new.store.disk)) c.self.view_is
    (c.read_needed_of.ensures.calls s d (subst (λ u. IsDraftedAt g.D.Disk.facts u s d) (sym c.self.view_is) at))

pub returns-clause-calls : goal.returns-clause-calls
returns-clause-calls g c s d at =
    let new = c.read_needed_of.new.draft in
    subst (λ u. AreCallsAtMost (bind_sectors d c.args.program.now) (g.D.Disk.facts u.store.disk) (g.D.Disk.facts new.store.disk)) c.self.view_is
    (c.read_needed_of.ensures.calls s d (subst (λ u. IsDraftedAt g.D.Disk.facts u s d) (sym c.self.view_is) at))

pub returns-clause-all_calls : goal.returns-clause-all_calls
returns-clause-all_calls g c s d at =
    let new = c.read_needed_of.new.draft in
    subst (λ u. AreCallsExactly (bind_sectors d c.args.program.now) (g.D.Disk.facts u.store.disk) (g.D.Disk.facts new.store.disk)) c.self.view_is
    (c.in-Ok.ensures.all_calls s d (subst (λ u. IsDraftedAt g.D.Disk.facts u s d) (sym c.self.view_is) at))
