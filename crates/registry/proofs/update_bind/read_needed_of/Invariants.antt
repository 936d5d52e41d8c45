use Rattle.std.proofs.Common.{◌+◌, ◌-◌, length}
use Rattle.registry.proofs.DraftBinds.{HasComeBeside}
use Rattle.registry.proofs.update_bind.read_needed_of.Given as goal

abbrev pub invariant-loop-alloc : goal.invariant-loop-alloc
invariant-loop-alloc g l = HasComeBeside g.D.Disk.facts l.program l.fn.draft l.draft l.walk.needs l.walk.files.items

abbrev pub decreases-loop-alloc : goal.decreases-loop-alloc
decreases-loop-alloc g l = length l.fn.draft.entries + 1 - length l.walk.files.items
