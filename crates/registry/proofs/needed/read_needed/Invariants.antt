use Rattle.std.proofs.Common.{◌+◌, ◌-◌, length}
use Rattle.registry.proofs.Sources.{HasCome}
use Rattle.registry.proofs.needed.read_needed.Given as goal

abbrev pub invariant-loop-source : goal.invariant-loop-source
invariant-loop-source g l = HasCome g.D.Disk.facts l.program l.fn.store l.store l.walk.needs l.walk.files.items

abbrev pub decreases-loop-source : goal.decreases-loop-source
decreases-loop-source g l = length l.fn.store.entries + 1 - length l.walk.files.items
