use Rattle.std.proofs.Common.{◌≡◌, ◌≤◌, IsTrue, length}
use Rattle.file_disk.proofs.Transfers.{IsReadSoFar}
use Rattle.file_disk.proofs.transfer.read_most.Given as goal

abbrev pub invariant-loop : goal.invariant-loop
invariant-loop g l =
    let facts = g.F.SectorFile.facts in
    record {
      size : length l.into ≡ length l.fn.into;
      few : l.count ≤ l.most;
      so_far : IsTrue g.F.SectorFile.is_honest → IsReadSoFar l.at l.into l.count l.counter (facts l.fn.file) (facts l.file);
    }
