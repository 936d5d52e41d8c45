use Rattle.std.proofs.Common.{◌≡◌, ◌<◌, sym, subst}
use Rattle.sector_disk.specs.Disk.{Mixture, LeavesOnly}
use Rattle.registry.proofs.Openings.{read_refuses, device_rose}
use Rattle.registry.proofs.admit_current.admit_current.Goals as goal

pub returns-in-Ok-clause-any_moment : goal.returns-in-Ok-clause-any_moment
returns-in-Ok-clause-any_moment g c honest = c.admit_files.ensures.read.leaves honest

pub returns-in-Ok-clause-ok : goal.returns-in-Ok-clause-ok
returns-in-Ok-clause-ok g c s at = record { stored = c.admit_files.ensures.read.same s at; libraries = c.in-Ok.ensures.ok s at }

pub returns-in-Err-clause-any_moment : goal.returns-in-Err-clause-any_moment
returns-in-Err-clause-any_moment g c honest =
    subst (λ disk. LeavesOnly (g.D.Disk.facts c.args.store.disk) (g.D.Disk.facts disk) (Mixture (g.D.Disk.facts c.args.store.disk)))
    (sym c.into_disk.ensures) (c.admit_files.ensures.read.leaves honest)

pub returns-in-Err-clause-damaged : goal.returns-in-Err-clause-damaged
returns-in-Err-clause-damaged g c s at = c.in-Err.ensures.damaged s at

pub returns-in-Err-clause-refusals : goal.returns-in-Err-clause-refusals
returns-in-Err-clause-refusals g c = read_refuses g.D.Disk.facts c.args.store c.admit_files.new.store c.in-Err.refusal c.in-Err.ensures.refusals c.requires.usable

pub returns-in-Err-clause-device : goal.returns-in-Err-clause-device
returns-in-Err-clause-device g c is =
    subst (λ disk. (g.D.Disk.facts c.args.store.disk).failures < (g.D.Disk.facts disk).failures) (sym c.into_disk.ensures)
    (device_rose g.D.Disk.facts c.args.store c.admit_files.new.store c.in-Err.refusal c.in-Err.ensures.refusals is)

pub returns-in-Ok-clause-now : goal.returns-in-Ok-clause-now
returns-in-Ok-clause-now g c honest = (c.admit_files.ensures.read.unchanged honest).now

pub returns-in-Err-clause-now : goal.returns-in-Err-clause-now
returns-in-Err-clause-now g c honest =
    subst (λ disk. (g.D.Disk.facts disk).now ≡ (g.D.Disk.facts c.args.store.disk).now) (sym c.into_disk.ensures) ((c.admit_files.ensures.read.unchanged honest).now)

pub returns-in-Ok-clause-log : goal.returns-in-Ok-clause-log
returns-in-Ok-clause-log g c honest = (c.admit_files.ensures.read.unchanged honest).log

pub returns-in-Err-clause-log : goal.returns-in-Err-clause-log
returns-in-Err-clause-log g c honest =
    subst (λ disk. (g.D.Disk.facts disk).log ≡ (g.D.Disk.facts c.args.store.disk).log) (sym c.into_disk.ensures) ((c.admit_files.ensures.read.unchanged honest).log)
