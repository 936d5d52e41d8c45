use Rattle.std.proofs.Common.{refl}
use Rattle.requests.specs.Request.{replace}
use Rattle.c_answers.proofs.Device.{change_not_device}
use Rattle.c_answers.proofs.Given.{plan_given, no_listing, no_image}
use Rattle.rlibreg_c.proofs.change.rlibreg_plan_replace.Goals as goal

pub returns : goal.returns
returns c =
    let on = c.plan_change in
    record {
      planned = record {
        plan = λ zero. plan_given c.args.disk.now (replace c.args.file.now)
            (λ s l e. no_listing l e) (λ s image e. no_image image e) on.new.plan on.new.text on.result on.result.status zero on.ensures.answered;
        answered = on.ensures.answered;
        left = on.ensures.left;
        status = refl;
        device = λ is. change_not_device on.new.text on.result on.result.status is c.args.disk.now (replace c.args.file.now) on.new.plan on.ensures.answered;
      };
    }
