use Rattle.std.proofs.Common.{rules}
use Rattle.file_disk.proofs.locked.reading.Goals as goal

pub returns : goal.returns
returns c = search rules
