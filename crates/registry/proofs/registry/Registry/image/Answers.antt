use Rattle.std.proofs.Common.{IfOk, subst}
use Rattle.std.proofs.lemmas.Result.{err_from_is_err_and}
use Rattle.sector_disk.specs.Disk.{AreCallsExactly}
use Rattle.image.proofs.Answering.{program-answer}
use Rattle.requests.specs.Binding.{objects, preload_numbers}
use Rattle.requests.specs.Request.{bind}
use Rattle.registry.specs.Binding.{bind_sectors, bound_answer}
use Rattle.registry.specs.Phase.{phase_of}
use Rattle.registry.specs.Untested.{UntestedStep}
use Rattle.registry.proofs.Applying.{leads_same}
use Rattle.registry.proofs.Bindings.{alone, refused}
use Rattle.store.proofs.IsReadLemmas.{read_none}
use Rattle.registry.proofs.registry.Registry.image.Goals as goal

pub returns-in_err-program-clause-step : goal.returns-in_err-program-clause-step
returns-in_err-program-clause-step g c s at =
    let p = err_from_is_err_and c.from_residual.result c.from_residual.ensures.1 in
    rw (p.1, p.2) (refused (phase_of g.D.Disk.facts c.args.self.now s) (phase_of g.D.Disk.facts c.args.self.now s) at.usable (leads_same (phase_of g.D.Disk.facts c.args.self.now s)) c.args.file.now c.args.base c.in_err-program.field-0.0
    (program-answer c.args.file.now c.args.base (objects s) (preload_numbers s) c.in_err-program.field-0.0 c.in_err-program.ensures.refused)
    (alone (phase_of g.D.Disk.facts c.args.self.now s) (phase_of g.D.Disk.facts c.args.self.now s) at.usable (leads_same (phase_of g.D.Disk.facts c.args.self.now s)) c.args.file.now c.args.base c.in_err-program.field-0.0 c.in_err-program.ensures.refused))

pub returns-clause-step : goal.returns-clause-step
returns-clause-step g c s at =
    subst (λ f. UntestedStep (phase_of g.D.Disk.facts c.args.self.now s) (bind f c.args.base) (bound_answer c.bind_admitted.result) (phase_of g.D.Disk.facts c.bind_admitted.new.self s))
    c.in_ok-program.ensures.same (c.bind_admitted.ensures.step s at)

pub returns-then-has_failed-clause-read : goal.returns-then-has_failed-clause-read
returns-then-has_failed-clause-read g c = read_none c.args.self.now

pub returns-in_err-program-clause-read : goal.returns-in_err-program-clause-read
returns-in_err-program-clause-read g c = read_none c.args.self.now

pub returns-clause-read : goal.returns-clause-read
returns-clause-read g c = c.bind_admitted.ensures.read

pub returns-clause-all_calls : goal.returns-clause-all_calls
returns-clause-all_calls g c s at =
    subst (λ f. IfOk c.bind_admitted.result (λ _. AreCallsExactly (bind_sectors s f) (g.D.Disk.facts c.args.self.now.disk) (g.D.Disk.facts c.bind_admitted.new.self.disk)))
    c.in_ok-program.ensures.same (c.bind_admitted.ensures.all_calls s at)

pub returns-clause-device : goal.returns-clause-device
returns-clause-device g c = c.bind_admitted.ensures.device

pub returns-clause-reopen : goal.returns-clause-reopen
returns-clause-reopen g c = c.bind_admitted.ensures.reopen

pub returns-clause-refusals : goal.returns-clause-refusals
returns-clause-refusals g c = c.bind_admitted.ensures.refusals

pub returns-clause-alone : goal.returns-clause-alone
returns-clause-alone g c refused = absurd (refused c.in_ok-program.ensures.accepted)
