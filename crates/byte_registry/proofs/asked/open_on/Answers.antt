use Rattle.std.proofs.Common.{refl}
use Rattle.byte_registry.proofs.Upgrades.{unopened}
use Rattle.byte_registry.proofs.asked.open_on.Goals as goal

pub returns-in-Ok-open_untested-clause-ok : goal.returns-in-Ok-open_untested-clause-ok
returns-in-Ok-open_untested-clause-ok c =
    let opened = c.in-Ok-open_untested.ensures.opening.opened in
    record {
      disk = c.in-Ok.disk;
      of_bytes = c.in-Ok.ensures.ok;
      any_moment = opened.any_moment refl;
      now = opened.now refl;
      log = opened.log refl;
      found = opened.ok refl;
      unheld = c.in-Ok-open_untested.ensures.opening.on_any_disk.ends.unheld;
    }

pub returns-in-Err-open_untested-clause-err : goal.returns-in-Err-open_untested-clause-err
returns-in-Err-open_untested-clause-err c =
    let why = c.in-Err-open_untested.ensures.opening.opened in
    unopened c.args.disk.now c.in-Ok.disk c.in-Ok.ensures.ok c.in-Err-open_untested.refusal (why.stands refl) (why.refused refl)
