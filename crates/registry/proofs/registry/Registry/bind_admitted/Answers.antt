use Rattle.std.proofs.Common.{sym, ap, subst, ◌∙◌}
use Rattle.std.specs.Prelude.{sum_by}
use Rattle.std.proofs.lemmas.Result.{err_from_is_err_and}
use Rattle.sector_disk.specs.Disk.{AreCallsExactly}
use Rattle.image.proofs.Answering.{program-based}
use Rattle.image.specs.Byte.{byte_of}
use Rattle.image.specs.Image.{image_of}
use Rattle.states.specs.State.{Library}
use Rattle.requests.specs.Request.{bind}
use Rattle.requests.specs.declared.reply.Reply.TheVariants.{Refused}
use Rattle.registry.specs.Binding.{data_sectors}
use Rattle.store.specs.Opened.{IsAt}
use Rattle.registry.specs.Phase.{phase_of}
use Rattle.registry.specs.Untested.{UntestedStep}
use Rattle.registry.specs.declared.walk.Walk.{Walk}
use Rattle.store.specs.IsRead.{IsRead}
use Rattle.registry.specs.inside.Reading.{IsReadRefusal}
use Rattle.registry.proofs.Bindings.{refusal_same, objects_same, answer_same, leads_read, sectors_read, refused, bound, unread}
use Rattle.registry.proofs.registry.Registry.bind_admitted.Goals as goal

pub returns-in-Err-clause-step : goal.returns-in-Err-clause-step
returns-in-Err-clause-step g c s at =
    let read : IsRead g.D.Disk.facts c.args.self.now c.read_needed.new.store = subst (λ k. IsRead g.D.Disk.facts k c.read_needed.new.store) c.self.view_is c.read_needed.ensures.read in
    let here : IsAt g.D.Disk.facts c.self.inside.store s = subst (λ k. IsAt g.D.Disk.facts k s) (sym c.self.view_is) at in
    subst (λ r. UntestedStep (phase_of g.D.Disk.facts c.args.self.now s) (bind c.args.program.now c.args.base) (Refused r)
    (phase_of g.D.Disk.facts c.read_needed.new.store s)) (sym c.refusal_of_read.ensures)
    (unread (phase_of g.D.Disk.facts c.args.self.now s) (phase_of g.D.Disk.facts c.read_needed.new.store s) at.usable
    (leads_read g.D.Disk.facts c.args.self.now c.read_needed.new.store s read at c.args.program.now c.args.base) c.args.program.now c.args.base c.requires c.in-Err.refusal
    (subst (λ k. IsReadRefusal g.D.Disk.facts k c.read_needed.new.store c.in-Err.refusal) c.self.view_is c.in-Err.ensures.refusals) (c.in-Err.ensures.damaged s here))

pub bind_found-requires : goal.bind_found-requires
bind_found-requires g c = program-based c.args.program.now c.args.base c.requires

pub returns-in_err-image-clause-step : goal.returns-in_err-image-clause-step
returns-in_err-image-clause-step g c s at =
    let read : IsRead g.D.Disk.facts c.args.self.now c.read_needed.new.store = subst (λ k. IsRead g.D.Disk.facts k c.read_needed.new.store) c.self.view_is c.read_needed.ensures.read in
    let here : IsAt g.D.Disk.facts c.self.inside.store s = subst (λ k. IsAt g.D.Disk.facts k s) (sym c.self.view_is) at in
    let walk : Walk = c.in-Ok.walk in
    let p = err_from_is_err_and c.from_residual.result c.from_residual.ensures.1 in
    rw (p.1, p.2) (refused (phase_of g.D.Disk.facts c.args.self.now s) (phase_of g.D.Disk.facts c.read_needed.new.store s) at.usable
    (leads_read g.D.Disk.facts c.args.self.now c.read_needed.new.store s read at c.args.program.now c.args.base) c.args.program.now c.args.base c.in_err-image.field-0.0
    (answer_same s c.args.program.now c.args.base walk.files.items walk.needs.missing c.requires (c.in-Ok.ensures.ok s here) (c.in-Ok.ensures.missing s here)
    c.in_err-image.field-0.0 c.in_err-image.ensures.tested.refused) (λ behind. c.in-Ok.ensures.libraries s here))

pub returns-clause-step : goal.returns-clause-step
returns-clause-step g c s at =
    let read : IsRead g.D.Disk.facts c.args.self.now c.read_needed.new.store = subst (λ k. IsRead g.D.Disk.facts k c.read_needed.new.store) c.self.view_is c.read_needed.ensures.read in
    let here : IsAt g.D.Disk.facts c.self.inside.store s = subst (λ k. IsAt g.D.Disk.facts k s) (sym c.self.view_is) at in
    let walk : Walk = c.in-Ok.walk in
    let ordered = c.in-Ok.ensures.ok s here in
    let lacking = c.in-Ok.ensures.missing s here in
    let same = objects_same s c.args.program.now c.args.base walk.files.items walk.needs.missing c.requires ordered lacking in
    bound (phase_of g.D.Disk.facts c.args.self.now s) (phase_of g.D.Disk.facts c.read_needed.new.store s) at.usable
    (leads_read g.D.Disk.facts c.args.self.now c.read_needed.new.store s read at c.args.program.now c.args.base) c.args.program.now c.args.base c.in_ok-image.image
    (refusal_same s c.args.program.now c.args.base walk.files.items walk.needs.missing c.requires ordered lacking ∙ c.in_ok-image.ensures.tested.accepted)
    (c.in_ok-image.ensures.ok ∙ ap image_of same)
    (λ a. c.in_ok-image.ensures.bytes a ∙ ap (λ os. byte_of os a) same) (c.in-Ok.ensures.libraries s here)

pub returns-clause-all_calls : goal.returns-clause-all_calls
returns-clause-all_calls g c s at =
    let here : IsAt g.D.Disk.facts c.self.inside.store s = subst (λ k. IsAt g.D.Disk.facts k s) (sym c.self.view_is) at in
    let walk : Walk = c.in-Ok.walk in
    subst (λ n. AreCallsExactly n (g.D.Disk.facts c.args.self.now.disk) (g.D.Disk.facts c.read_needed.new.store.disk))
    (sectors_read s c.args.program.now c.args.base walk.files.items walk.needs.missing c.requires (c.in-Ok.ensures.ok s here) (c.in-Ok.ensures.missing s here))
    (subst (λ k. AreCallsExactly (sum_by (λ (f : Library). data_sectors f.bytes) walk.files.items) (g.D.Disk.facts k.disk)
    (g.D.Disk.facts c.read_needed.new.store.disk)) c.self.view_is c.in-Ok.ensures.all_calls)

pub returns-in-Err-clause-read : goal.returns-in-Err-clause-read
returns-in-Err-clause-read g c = subst (λ k. IsRead g.D.Disk.facts k c.read_needed.new.store) c.self.view_is c.read_needed.ensures.read

pub returns-in_err-image-clause-read : goal.returns-in_err-image-clause-read
returns-in_err-image-clause-read g c = subst (λ k. IsRead g.D.Disk.facts k c.read_needed.new.store) c.self.view_is c.read_needed.ensures.read

pub returns-clause-read : goal.returns-clause-read
returns-clause-read g c = subst (λ k. IsRead g.D.Disk.facts k c.read_needed.new.store) c.self.view_is c.read_needed.ensures.read
