use Rattle.std.proofs.Common.{subst, arith}
use Rattle.std.specs.Prelude.{OnOk}
use Rattle.sector_disk.specs.Disk.{AreCallsAtMost, AreCallsExactly}
use Rattle.sector_disk.proofs.Moments.{exactly_at_most, exactly_none}
use Rattle.std.proofs.lemmas.Result.{err_from_is_err_and}
use Rattle.image.proofs.Answering.{program-answer}
use Rattle.requests.specs.Binding.{objects, preload_numbers}
use Rattle.requests.specs.Request.{bind}
use Rattle.registry.specs.Binding.{bind_sectors, bound_answer}
use Rattle.registry.specs.Drafting.{DraftStep, draft_phase}
use Rattle.registry.proofs.Applying.{leads_same}
use Rattle.registry.proofs.Bindings.{alone, refused}
use Rattle.registry.proofs.DraftBinds.{reads_none}
use Rattle.registry.proofs.update.Update.image.Goals as goal

pub returns-in_err-program-clause-step : goal.returns-in_err-program-clause-step
returns-in_err-program-clause-step g c s d at =
    let p = err_from_is_err_and c.from_residual.result c.from_residual.ensures.1 in
    let phase = draft_phase g.D.Disk.facts c.args.self.now d in
    rw (p.1, p.2) (refused phase phase at.stands.usable (leads_same phase) c.args.file.now c.args.base c.in_err-program.field-0.0
    (program-answer c.args.file.now c.args.base (objects d) (preload_numbers d) c.in_err-program.field-0.0 c.in_err-program.ensures.refused)
    (alone phase phase at.stands.usable (leads_same phase) c.args.file.now c.args.base c.in_err-program.field-0.0 c.in_err-program.ensures.refused))

pub returns-clause-step : goal.returns-clause-step
returns-clause-step g c s d at =
    subst (λ f. DraftStep (draft_phase g.D.Disk.facts c.args.self.now d) (bind f c.args.base) (bound_answer c.bind_admitted.result) (draft_phase g.D.Disk.facts c.bind_admitted.new.self d))
    c.in_ok-program.ensures.same (c.bind_admitted.ensures.step s d at)

pub returns-then-has_failed-clause-read : goal.returns-then-has_failed-clause-read
returns-then-has_failed-clause-read g c = reads_none c.args.self.now

pub returns-in_err-program-clause-read : goal.returns-in_err-program-clause-read
returns-in_err-program-clause-read g c = reads_none c.args.self.now

pub returns-clause-read : goal.returns-clause-read
returns-clause-read g c = c.bind_admitted.ensures.read

pub returns-clause-device : goal.returns-clause-device
returns-clause-device g c = c.bind_admitted.ensures.device

pub returns-clause-reopen : goal.returns-clause-reopen
returns-clause-reopen g c = c.bind_admitted.ensures.reopen

pub returns-clause-refusals : goal.returns-clause-refusals
returns-clause-refusals g c = c.bind_admitted.ensures.refusals

pub returns-clause-alone : goal.returns-clause-alone
returns-clause-alone g c refused = absurd (refused c.in_ok-program.ensures.accepted)

pub returns-then-has_failed-clause-calls : goal.returns-then-has_failed-clause-calls
returns-then-has_failed-clause-calls g c s d at = exactly_at_most (exactly_none (g.D.Disk.facts c.args.self.now.store.disk)) (omega arith)

pub returns-in_err-program-clause-calls : goal.returns-in_err-program-clause-calls
returns-in_err-program-clause-calls g c s d at = exactly_at_most (exactly_none (g.D.Disk.facts c.args.self.now.store.disk)) (omega arith)

pub returns-clause-calls : goal.returns-clause-calls
returns-clause-calls g c s d at =
    subst (λ f. AreCallsAtMost (bind_sectors d f) (g.D.Disk.facts c.args.self.now.store.disk) (g.D.Disk.facts c.bind_admitted.new.self.store.disk))
    c.in_ok-program.ensures.same (c.bind_admitted.ensures.calls s d at)

pub returns-clause-all_calls : goal.returns-clause-all_calls
returns-clause-all_calls g c s d at =
    subst (λ f. OnOk c.bind_admitted.result (AreCallsExactly (bind_sectors d f) (g.D.Disk.facts c.args.self.now.store.disk) (g.D.Disk.facts c.bind_admitted.new.self.store.disk)))
    c.in_ok-program.ensures.same (c.bind_admitted.ensures.all_calls s d at)
