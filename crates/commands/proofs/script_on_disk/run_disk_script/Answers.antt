use Rattle.std.proofs.Common.{inl, inr, refl, ap, ◌∙◌}
use Rattle.commands.proofs.script_on_disk.run_disk_script.Goals as goal

pub returns-in-Ok-clause-ends : goal.returns-in-Ok-clause-ends
returns-in-Ok-clause-ends g c =
    let is = c.in-Ok.ensures in
    let made = c.new.ensures in
    let ran = c.run_watched-status in
    inl (record {
      old = c.new.result;
      opened = rw made.none (record { opened = is.opening; on_any_disk = is.on_any_disk; all_calls = is.all_calls });
      empty = rw made.none refl;
      alone = made.alone is.on_any_disk.ends.unheld;
      new = ran.new.watched.binders;
      run = ran.ensures.run;
      back = c.into_disk.ensures ∙ ap (λ r. r.disk) c.into_registry.ensures;
    })

pub returns-in-Err-clause-ends : goal.returns-in-Err-clause-ends
returns-in-Err-clause-ends g c =
    let is = c.in-Err.ensures in
    inr (c.in-Err.refusal, record { opened = is.opening; on_any_disk = is.on_any_disk; all_calls = is.all_calls }, c.write_disk_answer.ensures)
