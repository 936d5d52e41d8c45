use Rattle.std.proofs.Common.{map, refl, sym, ap, subst}
use Rattle.sector_disk.proofs.Moments.{no_calls}
use Rattle.requests.specs.Request.{install, remove, replace, request_of, set_preloads}
use Rattle.registry.specs.Answered.{IsInstallRefusal, IsPreloadsRefusal, IsRemoveRefusal, IsReplaceRefusal}
use Rattle.registry.specs.Drafting.{AnsweredDraft, IsBoundBeside}
use Rattle.registry.proofs.Changed.{change_answers}
use Rattle.registry.proofs.DraftBinds.{reads_beside}
use Rattle.registry.proofs.Planning.{applies_draft_as, beside_same, bind_leaves, list_leaves, plan_answered_as, plan_leaves}
use Rattle.registry.proofs.update.Update.apply.Goals as goal

pub returns-in-Install-clause-applied : goal.returns-in-Install-clause-applied
returns-in-Install-clause-applied g c s d at = applies_draft_as g.D.Disk.facts (ap request_of c.in-Install.is) c.reply.ensures (c.install.ensures.applied s d at)

pub returns-in-Replace-clause-applied : goal.returns-in-Replace-clause-applied
returns-in-Replace-clause-applied g c s d at = applies_draft_as g.D.Disk.facts (ap request_of c.in-Replace.is) c.reply-in-Replace.ensures (c.replace.ensures.applied s d at)

pub returns-in-Remove-clause-applied : goal.returns-in-Remove-clause-applied
returns-in-Remove-clause-applied g c s d at = applies_draft_as g.D.Disk.facts (ap request_of c.in-Remove.is) c.reply-in-Remove.ensures (c.remove.ensures.applied s d at)

pub returns-in-SetPreloads-clause-applied : goal.returns-in-SetPreloads-clause-applied
returns-in-SetPreloads-clause-applied g c s d at = applies_draft_as g.D.Disk.facts (ap request_of c.in-SetPreloads.is) c.reply-in-SetPreloads.ensures (c.set_preloads.ensures.applied s d at)

pub returns-in-Bind-clause-applied : goal.returns-in-Bind-clause-applied
returns-in-Bind-clause-applied g c s d at = applies_draft_as g.D.Disk.facts (ap request_of c.in-Bind.is) refl (c.bind.ensures.applied s d at)

pub returns-in-List-clause-applied : goal.returns-in-List-clause-applied
returns-in-List-clause-applied g c s d at = applies_draft_as g.D.Disk.facts (ap request_of c.in-List.is) refl (c.list.ensures.applied s d at)

pub returns-in-Install-clause-on_any_disk : goal.returns-in-Install-clause-on_any_disk
returns-in-Install-clause-on_any_disk g c =
    let planned = c.install.ensures.on_any_disk in
    plan_answered_as g.D.Disk.facts c.install.result (ap request_of c.in-Install.is) c.reply.ensures planned
    (change_answers IsInstallRefusal c.install.result planned.changed.refusals) (plan_leaves c.args.self.now c.install.new.self (install c.in-Install.bytes.now) tt c.install.result planned.refused planned.planned)

pub returns-in-Replace-clause-on_any_disk : goal.returns-in-Replace-clause-on_any_disk
returns-in-Replace-clause-on_any_disk g c =
    let planned = c.replace.ensures.on_any_disk in
    plan_answered_as g.D.Disk.facts c.replace.result (ap request_of c.in-Replace.is) c.reply-in-Replace.ensures planned
    (change_answers IsReplaceRefusal c.replace.result planned.changed.refusals) (plan_leaves c.args.self.now c.replace.new.self (replace c.in-Replace.bytes.now) tt c.replace.result planned.refused planned.planned)

pub returns-in-Remove-clause-on_any_disk : goal.returns-in-Remove-clause-on_any_disk
returns-in-Remove-clause-on_any_disk g c =
    let planned = c.remove.ensures.on_any_disk in
    plan_answered_as g.D.Disk.facts c.remove.result (ap request_of c.in-Remove.is) c.reply-in-Remove.ensures planned
    (change_answers IsRemoveRefusal c.remove.result planned.changed.refusals) (plan_leaves c.args.self.now c.remove.new.self (remove c.in-Remove.name.now) tt c.remove.result planned.refused planned.planned)

pub returns-in-SetPreloads-clause-on_any_disk : goal.returns-in-SetPreloads-clause-on_any_disk
returns-in-SetPreloads-clause-on_any_disk g c =
    let planned = c.set_preloads.ensures.on_any_disk in
    plan_answered_as g.D.Disk.facts c.set_preloads.result (ap request_of c.in-SetPreloads.is) c.reply-in-SetPreloads.ensures planned
    (change_answers IsPreloadsRefusal c.set_preloads.result planned.changed.refusals) (plan_leaves c.args.self.now c.set_preloads.new.self (set_preloads (map (λ n. n.now) c.in-SetPreloads.names.now)) tt c.set_preloads.result planned.refused planned.planned)

pub returns-in-Bind-clause-on_any_disk : goal.returns-in-Bind-clause-on_any_disk
returns-in-Bind-clause-on_any_disk g c =
    let bound = c.bind.ensures in
    subst (λ q. AnsweredDraft g.D.Disk.facts c.args.self.now c.bind.new.self q c.bind.result) (sym (ap request_of c.in-Bind.is)) (record {
      reopen = (bound.reopen, λ failed. (bound.failed failed).0);
      failed = λ failed. (bound.failed failed).1;
      device = bound.device;
      answers = bound.answers;
      beside = reads_beside bound.read;
      leaves = bind_leaves c.args.self.now c.bind.new.self c.in-Bind.program.now c.in-Bind.base c.bind.result bound.read.draft;
      calls = bound.read.read.calls;
    })

pub returns-in-List-clause-on_any_disk : goal.returns-in-List-clause-on_any_disk
returns-in-List-clause-on_any_disk g c =
    let now = c.args.self.now in
    subst (λ q. AnsweredDraft g.D.Disk.facts now now q c.list.result) (sym (ap request_of c.in-List.is)) (record {
      reopen = c.list.ensures.reopen;
      failed = λ failed. refl;
      device = λ is. absurd (c.list.ensures.device is);
      answers = c.list.ensures.answers;
      beside = beside_same g.D.Disk.facts now;
      leaves = list_leaves g.D.Disk.facts now c.list.result;
      calls = no_calls (g.D.Disk.facts now.store.disk);
    })

pub returns-in-Install-clause-bound : goal.returns-in-Install-clause-bound
returns-in-Install-clause-bound g c s d at = subst (λ q. IsBoundBeside g.D.Disk.facts c.args.self.now c.install.new.self d q c.reply.result) (sym (ap request_of c.in-Install.is)) tt

pub returns-in-Replace-clause-bound : goal.returns-in-Replace-clause-bound
returns-in-Replace-clause-bound g c s d at = subst (λ q. IsBoundBeside g.D.Disk.facts c.args.self.now c.replace.new.self d q c.reply-in-Replace.result) (sym (ap request_of c.in-Replace.is)) tt

pub returns-in-Remove-clause-bound : goal.returns-in-Remove-clause-bound
returns-in-Remove-clause-bound g c s d at = subst (λ q. IsBoundBeside g.D.Disk.facts c.args.self.now c.remove.new.self d q c.reply-in-Remove.result) (sym (ap request_of c.in-Remove.is)) tt

pub returns-in-SetPreloads-clause-bound : goal.returns-in-SetPreloads-clause-bound
returns-in-SetPreloads-clause-bound g c s d at = subst (λ q. IsBoundBeside g.D.Disk.facts c.args.self.now c.set_preloads.new.self d q c.reply-in-SetPreloads.result) (sym (ap request_of c.in-SetPreloads.is)) tt

pub returns-in-List-clause-bound : goal.returns-in-List-clause-bound
returns-in-List-clause-bound g c s d at = subst (λ q. IsBoundBeside g.D.Disk.facts c.args.self.now c.args.self.now d q c.list.result) (sym (ap request_of c.in-List.is)) tt

pub returns-in-Bind-clause-bound : goal.returns-in-Bind-clause-bound
returns-in-Bind-clause-bound g c s d at = subst (λ q. IsBoundBeside g.D.Disk.facts c.args.self.now c.bind.new.self d q c.bind.result) (sym (ap request_of c.in-Bind.is)) (c.bind.ensures.bound s d at)
