use Rattle.std.proofs.Common.{ap, length, arith}
use Rattle.file_disk.proofs.buffered.Buffered.write_back.Goals as goal

pub write_all-requires-clause-fits : goal.write_all-requires-clause-fits
write_all-requires-clause-fits g c = omega (arith, c.args.self.now.inside, c.args.self.now.few, c.start-start.ensures, ap length c.contents.ensures)
