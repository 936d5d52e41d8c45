use Rattle.std.proofs.Common.{Ok, inl, ap, subst, ◌∙◌}
use Rattle.binders.specs.Stepped.{AdvancesIn, BeginsIn}
use Rattle.binders.proofs.binders.Binders.reply_to.Goals as goal

pub returns-in-Ok : goal.returns-in-Ok
returns-in-Ok g c = rw c.in-Begin.is
    (subst (λ r. BeginsIn g.D.Disk.facts c.args.self.now c.begin.new.self c.in-Begin.program.now c.in-Begin.base r) c.in-Ok.is c.begin.ensures)

pub returns-in-Ok-Going : goal.returns-in-Ok-Going
returns-in-Ok-Going g c = rw c.in-Advance.is
    (subst (λ r. AdvancesIn g.D.Disk.facts c.args.self.now c.advance.new.self c.in-Advance.slot r) (c.in-Ok-Going.is ∙ ap (λ r. Ok r) c.in-Ok-Going.field-0-is) c.advance.ensures)

pub returns-in-Ok-Final : goal.returns-in-Ok-Final
returns-in-Ok-Final g c = rw c.in-Advance.is
    (inl (subst (λ r. AdvancesIn g.D.Disk.facts c.args.self.now c.advance.new.self c.in-Advance.slot r) (c.in-Ok-Final.is ∙ ap (λ r. Ok r) c.in-Ok-Final.field-0-is) c.advance.ensures))
