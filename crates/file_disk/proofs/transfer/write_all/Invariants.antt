use Rattle.std.proofs.Common.{◌≤◌, IsTrue, length}
use Rattle.file_disk.proofs.Transfers.{IsWrittenSoFar}
use Rattle.file_disk.proofs.transfer.write_all.Given as goal

abbrev pub invariant-loop : goal.invariant-loop
invariant-loop g l =
    let facts = g.F.SectorFile.facts in
    record {
      few : l.done ≤ length l.from;
      so_far : IsTrue g.F.SectorFile.is_honest → IsWrittenSoFar l.at l.from l.done l.counter (facts l.fn.file) (facts l.file);
    }
