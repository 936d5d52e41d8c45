use Rattle.std.proofs.Common.{◌<◌, length, drop, arith}
use Rattle.std.proofs.lemmas.List.{get_or_read, length-drop}
use Rattle.sector_disk.proofs.Kept.{length-written_to}
use Rattle.sector_disk.proofs.memory.Memory.choices.Goals as goal

pub overflow_add-result : goal.overflow_add-result
overflow_add-result c =
    let self = c.args.self.now in
    let in_counts : c.args.at < length self.unsynced.items = omega (arith, self.one_count_each) in
    omega (
      arith,
      get_or_read self.unsynced.items c.args.at c.index.result.now in_counts c.index.ensures 0,
      self.counted c.args.at c.requires,
      length-written_to c.args.at (drop self.synced self.writes.items),
      length-drop self.synced self.writes.items,
      self.writes.ok,
      self.writes.small,
    )
