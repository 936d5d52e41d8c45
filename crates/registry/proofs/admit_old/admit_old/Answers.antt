use Rattle.std.proofs.Common.{◌≡◌, Ok, Err, ◌+◌, length, refl, sym, subst, ◌∙◌, arith}
use Rattle.sector_disk.specs.Disk.{Mixture, LeavesOnly, LogGrows, AreCallsExactly}
use Rattle.sector_disk.proofs.Moments.{more_calls, exactly_sum, exactly_logged}
use Rattle.states.specs.Cost.{catalogues_for}
use Rattle.extents.specs.Used.{layout_of}
use Rattle.store.specs.Stands.{catalogues_of, used}
use Rattle.store.specs.Taken.{AreTaken}
use Rattle.store.specs.Step.{refusal_of_upgrade, IsUpgradeAnswer}
use Rattle.store.proofs.Upgrades.{as_committed}
use Rattle.registry.specs.inside.Relisting.{EndsRelisting}
use Rattle.registry.proofs.Openings.{device_rose, libraries_refuse, read_refuses}
use Rattle.registry.proofs.Upgrades.{as_read, commit_leaves, commit_refuses, read_leaves, unread_refuses}
use Rattle.registry.proofs.admit_old.admit_old.Goals as goal

pub returns-in-Ok-commit : goal.returns-in-Ok-commit
returns-in-Ok-commit g c =
    let facts = g.D.Disk.facts in
    let old = c.args.store in
    let mid = c.admit_old_files.new.store in
    let read = c.admit_old_files.ensures.read in
    let admitted = c.in-Ok.ensures in
    let new = c.in-Ok-commit.store in
    let done = c.in-Ok-commit.ensures in
    record {
      any_moment = λ s at libraries. commit_leaves facts old s at libraries (facts mid.disk) (facts new.disk) (read.leaves at.honest) (done.any_moment s (read.same s at));
      left_alone = λ s at none. absurd (none (admitted.ok s at));
      unwritten = λ honest. tt;
      now = λ s at none. absurd (none (admitted.ok s at));
      now_refused = λ honest. tt;
      ok = λ s at. (admitted.ok s at, record { stored = done.ok s (read.same s at); libraries = admitted.ok s at });
      answer = λ s at libraries. subst (λ r. IsUpgradeAnswer (refusal_of_upgrade r.sectors s) (Ok tt)) read.root
          (as_committed (refusal_of_upgrade mid.root.sectors s) (Ok tt) (done.refused s (read.same s at)));
      no_library = λ s at none. tt;
      usable = done.usable;
      unheld = done.unheld;
      placed = record {
        taken = subst (λ r. AreTaken (layout_of r.sectors (used r old.entries)) (catalogues_of new.root)) read.root
            (subst (λ es. AreTaken (layout_of mid.root.sectors (used mid.root es)) (catalogues_of new.root)) read.entries done.placed.taken);
        entries = done.placed.entries ∙ read.entries;
      };
      refusals = tt;
      device = tt;
      calls = more_calls read.calls done.all_calls.some;
      all_calls = exactly_sum admitted.all_calls
          (subst (λ es. AreCallsExactly (catalogues_for (length es) + 3) (facts mid.disk) (facts new.disk)) read.entries done.all_calls) refl;
      log = λ honest. subst (λ es. LogGrows (catalogues_for (length es) + 3) (facts old.disk).log (facts new.disk).log) read.entries
          (subst (λ log. LogGrows (catalogues_for (length mid.entries) + 3) log (facts new.disk).log) (read.unchanged honest).log (exactly_logged done.all_calls));
    }

pub returns-in-Err-commit : goal.returns-in-Err-commit
returns-in-Err-commit g c =
    let facts = g.D.Disk.facts in
    let old = c.args.store in
    let mid = c.admit_old_files.new.store in
    let read = c.admit_old_files.ensures.read in
    let admitted = c.in-Ok.ensures in
    let e = c.in-Err-commit.refused in
    let failed = c.in-Err-commit.ensures in
    record {
      any_moment = λ s at libraries. commit_leaves facts old s at libraries (facts mid.disk) (facts e.1) (read.leaves at.honest) (failed.any_moment s (read.same s at));
      left_alone = λ s at none. absurd (none (admitted.ok s at));
      unwritten = λ honest other. subst (λ disk. LeavesOnly (facts old.disk) (facts disk) (Mixture (facts old.disk))) (sym (failed.untouched other)) (read.leaves honest);
      now = λ s at none. absurd (none (admitted.ok s at));
      now_refused = λ honest other. subst (λ disk. (facts disk).now ≡ (facts old.disk).now) (sym (failed.untouched other)) (read.unchanged honest).now;
      ok = λ s at. tt;
      answer = λ s at libraries. subst (λ r. IsUpgradeAnswer (refusal_of_upgrade r.sectors s) (Err e.0)) read.root
          (as_committed (refusal_of_upgrade mid.root.sectors s) (Err e.0) (failed.refused s (read.same s at)));
      no_library = λ s at none. absurd (none (admitted.ok s at));
      usable = tt;
      unheld = tt;
      placed = tt;
      refusals = commit_refuses e.0 failed.refusals;
      device = λ is. omega (arith, failed.device is, read.calls.failures);
      calls = more_calls read.calls failed.calls.some;
      all_calls = tt;
      log = λ honest. tt;
    }

pub returns-in-Err : goal.returns-in-Err
returns-in-Err g c =
    let facts = g.D.Disk.facts in
    let old = c.args.store in
    let new = c.admit_old_files.new.store in
    let read = c.admit_old_files.ensures.read in
    let failed = c.in-Err.ensures in
    let e = c.in-Err.refusal in
    let which = read_refuses facts old new e failed.refusals c.requires.usable in
    subst (λ disk. EndsRelisting facts old (Err (e, disk))) (sym c.into_disk.ensures) (record {
      any_moment = λ s at libraries. read_leaves facts old s at libraries (facts new.disk) (read.leaves at.honest);
      left_alone = λ s at none. read.leaves at.honest;
      unwritten = λ honest other. read.leaves honest;
      now = λ s at none. (read.unchanged at.honest).now;
      now_refused = λ honest other. (read.unchanged honest).now;
      ok = λ s at. tt;
      answer = λ s at libraries. as_read (refusal_of_upgrade old.root.sectors s) e (libraries_refuse e which (λ is. failed.damaged s at is libraries));
      no_library = λ s at none. which;
      usable = tt;
      unheld = tt;
      placed = tt;
      refusals = unread_refuses e which;
      device = device_rose facts old new e failed.refusals;
      calls = read.calls;
      all_calls = tt;
      log = λ honest. tt;
    })
