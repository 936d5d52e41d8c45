use Rattle.byte_disk.proofs.Kept.{keeps, same}
use Rattle.byte_disk.proofs.disk.ByteDiskDisk.read.Goals as goal

pub returns-clause-honest : goal.returns-clause-honest
returns-clause-honest c honest =
    let self = c.args.self.now in
    record {
      past = keeps self.start.now self.planned.items self.idle c.end_call.new.self c.end_call.ensures.made;
      same = same self.start.now self.planned.items self.idle c.end_call.new.self;
      ok = c.latest.ensures;
    }
