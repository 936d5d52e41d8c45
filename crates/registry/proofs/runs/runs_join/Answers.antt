use Rattle.registry.proofs.Running.{runs_joined, steps_ran}
use Rattle.registry.proofs.runs.runs_join.Goals as goal

pub returns-clause-ran : goal.returns-clause-ran
returns-clause-ran g c start exchanges points at steps = steps_ran g.D.Disk.facts start exchanges points at steps

pub returns-clause-joined : goal.returns-clause-joined
returns-clause-joined g c start mid end first second points later at one other =
    runs_joined g.D.Disk.facts start mid end first second points later at one other
