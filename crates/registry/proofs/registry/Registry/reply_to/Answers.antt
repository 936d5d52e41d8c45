use Rattle.std.proofs.Common.{◌+◌, ◌-◌, length, refl, sym, ap, subst}
use Rattle.sector_disk.specs.Disk.{AreCallsExactly}
use Rattle.requests.specs.Request.{request_of}
use Rattle.registry.specs.Binding.{bind_sectors}
use Rattle.registry.specs.Calls.{IfAccepted, calls_of}
use Rattle.registry.specs.Phase.{phase_of}
use Rattle.registry.proofs.Applying.{applies_as, bound_alone}
use Rattle.std.specs.Int.{div_ceil}
use Rattle.sector_disk.specs.Disk.{sector_bytes}
use Rattle.states.specs.Cost.{catalogues_for}
use Rattle.sector_disk.proofs.Moments.{no_calls}
use Rattle.registry.specs.Answered.{Answered, IsInstallRefusal, IsReplaceRefusal, IsRemoveRefusal, IsPreloadsRefusal}
use Rattle.registry.proofs.Keeping.{keeps_held_same}
use Rattle.registry.proofs.Changed.{calls_accepted, calls_as, change_answered, change_answers, change_leaves}
use Rattle.registry.proofs.registry.Registry.reply_to.Goals as goal

pub returns-in-Install-clause-untested : goal.returns-in-Install-clause-untested
returns-in-Install-clause-untested g c s at = applies_as g.D.Disk.facts c.args.self.now c.install.new.self s (ap request_of c.in-Install.is) c.reply.ensures (c.install.ensures.applied s at)

pub returns-in-Replace-clause-untested : goal.returns-in-Replace-clause-untested
returns-in-Replace-clause-untested g c s at = applies_as g.D.Disk.facts c.args.self.now c.replace.new.self s (ap request_of c.in-Replace.is) c.reply-in-Replace.ensures (c.replace.ensures.applied s at)

pub returns-in-Remove-clause-untested : goal.returns-in-Remove-clause-untested
returns-in-Remove-clause-untested g c s at = applies_as g.D.Disk.facts c.args.self.now c.remove.new.self s (ap request_of c.in-Remove.is) c.reply-in-Remove.ensures (c.remove.ensures.applied s at)

pub returns-in-SetPreloads-clause-untested : goal.returns-in-SetPreloads-clause-untested
returns-in-SetPreloads-clause-untested g c s at =
    applies_as g.D.Disk.facts c.args.self.now c.set_preloads.new.self s (ap request_of c.in-SetPreloads.is) c.reply-in-SetPreloads.ensures
    (c.set_preloads.ensures.applied s at)

pub returns-in-Bind-clause-untested : goal.returns-in-Bind-clause-untested
returns-in-Bind-clause-untested g c s at = applies_as g.D.Disk.facts c.args.self.now c.bind.new.self s (ap request_of c.in-Bind.is) refl (s, c.bind.ensures.applied s at)

pub returns-in-Bind-clause-all_calls : goal.returns-in-Bind-clause-all_calls
returns-in-Bind-clause-all_calls g c s at =
    let facts = g.D.Disk.facts in
    let old = c.args.self.now in
    let new = c.bind.new.self in
    subst (λ q. IfAccepted c.bind.result (AreCallsExactly (calls_of s q) (facts old.disk) (facts new.disk))) (sym (ap request_of c.in-Bind.is))
    (bound_alone (phase_of facts old s) (phase_of facts new s) c.in-Bind.program.now c.in-Bind.base c.bind.result
    (AreCallsExactly (bind_sectors s c.in-Bind.program.now) (facts old.disk) (facts new.disk))
    (c.bind.ensures.applied s at).step (c.bind.ensures.all_calls s at))

pub returns-in-List-clause-untested : goal.returns-in-List-clause-untested
returns-in-List-clause-untested g c s at = applies_as g.D.Disk.facts c.args.self.now c.args.self.now s (ap request_of c.in-List.is) refl (c.list.ensures.applied s at)

pub returns-in-Bind-clause-on_any_disk : goal.returns-in-Bind-clause-on_any_disk
returns-in-Bind-clause-on_any_disk g c before after =
    let bound = c.bind.ensures in
    subst (λ q. Answered g.D.Disk.facts c.args.self.now c.bind.new.self q c.bind.result) (sym (ap request_of c.in-Bind.is)) (record {
      did = record {
        reopen = (bound.reopen, λ failed. (bound.failed failed).0);
        failed = λ failed. (bound.failed failed).1;
        device = bound.device;
        leaves = ((bound.kept.0, bound.kept.1, bound.table, bound.kept.2), bound.alone);
        held = bound.held;
        holds_before = before;
        holds_after = after;
        calls = bound.calls;
      };
      answers = bound.answers;
    })

pub returns-in-List-clause-on_any_disk : goal.returns-in-List-clause-on_any_disk
returns-in-List-clause-on_any_disk g c before after =
    let now = c.args.self.now in
    subst (λ q. Answered g.D.Disk.facts now now q c.list.result) (sym (ap request_of c.in-List.is)) (record {
      did = record {
        reopen = c.list.ensures.reopen;
        failed = λ failed. refl;
        device = λ is. absurd (c.list.ensures.device is);
        leaves = refl;
        held = keeps_held_same g.D.Disk.facts now;
        holds_before = before;
        holds_after = after;
        calls = no_calls (g.D.Disk.facts now.disk);
      };
      answers = c.list.ensures.answers;
    })

pub returns-in-Install-clause-all_calls : goal.returns-in-Install-clause-all_calls
returns-in-Install-clause-all_calls g c s at =
    calls_as g.D.Disk.facts c.args.self.now c.install.new.self s (ap request_of c.in-Install.is) c.reply.ensures
    (calls_accepted g.D.Disk.facts c.args.self.now c.install.new.self s at (g.met.D.Disk.holds_now c.args.self.now.disk)
    (λ n. div_ceil (length c.in-Install.bytes.now) sector_bytes + catalogues_for (n + 1) + 4) c.install.result c.install.ensures.on_any_disk.all_calls)

pub returns-in-Install-clause-on_any_disk : goal.returns-in-Install-clause-on_any_disk
returns-in-Install-clause-on_any_disk g c before after =
    let changed = c.install.ensures.on_any_disk in
    change_answered g.D.Disk.facts c.install.result (ap request_of c.in-Install.is) c.reply.ensures changed
    (change_answers IsInstallRefusal c.install.result changed.refusals) (change_leaves g.D.Disk.facts c.install.result changed) c.install.ensures.held before after

pub returns-in-Replace-clause-all_calls : goal.returns-in-Replace-clause-all_calls
returns-in-Replace-clause-all_calls g c s at =
    calls_as g.D.Disk.facts c.args.self.now c.replace.new.self s (ap request_of c.in-Replace.is) c.reply-in-Replace.ensures
    (calls_accepted g.D.Disk.facts c.args.self.now c.replace.new.self s at (g.met.D.Disk.holds_now c.args.self.now.disk)
    (λ n. div_ceil (length c.in-Replace.bytes.now) sector_bytes + catalogues_for n + 4) c.replace.result c.replace.ensures.on_any_disk.all_calls)

pub returns-in-Replace-clause-on_any_disk : goal.returns-in-Replace-clause-on_any_disk
returns-in-Replace-clause-on_any_disk g c before after =
    let changed = c.replace.ensures.on_any_disk in
    change_answered g.D.Disk.facts c.replace.result (ap request_of c.in-Replace.is) c.reply-in-Replace.ensures changed
    (change_answers IsReplaceRefusal c.replace.result changed.refusals) (change_leaves g.D.Disk.facts c.replace.result changed) c.replace.ensures.held before after

pub returns-in-Remove-clause-all_calls : goal.returns-in-Remove-clause-all_calls
returns-in-Remove-clause-all_calls g c s at =
    calls_as g.D.Disk.facts c.args.self.now c.remove.new.self s (ap request_of c.in-Remove.is) c.reply-in-Remove.ensures
    (calls_accepted g.D.Disk.facts c.args.self.now c.remove.new.self s at (g.met.D.Disk.holds_now c.args.self.now.disk)
    (λ n. catalogues_for (n - 1) + 3) c.remove.result c.remove.ensures.on_any_disk.all_calls)

pub returns-in-Remove-clause-on_any_disk : goal.returns-in-Remove-clause-on_any_disk
returns-in-Remove-clause-on_any_disk g c before after =
    let changed = c.remove.ensures.on_any_disk in
    change_answered g.D.Disk.facts c.remove.result (ap request_of c.in-Remove.is) c.reply-in-Remove.ensures changed
    (change_answers IsRemoveRefusal c.remove.result changed.refusals) (change_leaves g.D.Disk.facts c.remove.result changed) c.remove.ensures.held before after

pub returns-in-SetPreloads-clause-all_calls : goal.returns-in-SetPreloads-clause-all_calls
returns-in-SetPreloads-clause-all_calls g c s at =
    calls_as g.D.Disk.facts c.args.self.now c.set_preloads.new.self s (ap request_of c.in-SetPreloads.is) c.reply-in-SetPreloads.ensures
    (calls_accepted g.D.Disk.facts c.args.self.now c.set_preloads.new.self s at (g.met.D.Disk.holds_now c.args.self.now.disk)
    (λ n. 2) c.set_preloads.result c.set_preloads.ensures.on_any_disk.all_calls)

pub returns-in-SetPreloads-clause-on_any_disk : goal.returns-in-SetPreloads-clause-on_any_disk
returns-in-SetPreloads-clause-on_any_disk g c before after =
    let changed = c.set_preloads.ensures.on_any_disk in
    change_answered g.D.Disk.facts c.set_preloads.result (ap request_of c.in-SetPreloads.is) c.reply-in-SetPreloads.ensures changed
    (change_answers IsPreloadsRefusal c.set_preloads.result changed.refusals) (change_leaves g.D.Disk.facts c.set_preloads.result changed) c.set_preloads.ensures.held before after
