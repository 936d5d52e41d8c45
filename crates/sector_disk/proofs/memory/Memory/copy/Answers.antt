use Rattle.std.proofs.Common.{◌∙◌}
use Rattle.sector_disk.proofs.Kept.{copied}
use Rattle.sector_disk.proofs.memory.Memory.copy.Goals as goal

pub returns-clause-ok : goal.returns-clause-ok
returns-clause-ok c =
    let self = c.args.self.now in
    copied self.start.items _ self.writes.items _ self.synced self.past.items _
    (c.in_ok-from_slice.ensures.items ∙ c.deref.ensures.value) (c.in_ok-from_slice-2.ensures.items ∙ c.deref-2.ensures.value) c.copy.ensures
