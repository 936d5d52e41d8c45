use Rattle.std.proofs.Common.{◌≡◌, length, slice_index_or, sym, subst}
use Rattle.sector_disk.specs.Disk.{AreCallsAtMost}
use Rattle.store.specs.IsRead.{IsRead, file_sectors}
use Rattle.store.specs.Opened.{IsAt}
use Rattle.store.proofs.IsReadLemmas.{read_one}
use Rattle.contents.proofs.contents.Contents.read.Goals as goal
use Rattle.contents.proofs.contents.Contents.read.Goals.{in-Ok, in-Err-OutOfMemory, in-Err}

pub returns-clause-read : goal.returns-clause-read
returns-clause-read g c = subst (λ store. IsRead g.D.Disk.facts store c.read_blob.new.self) c.self.view_is (read_one c.read_blob.ensures)

pub returns-clause-ok : goal.returns-clause-ok
returns-clause-ok g c s at =
    let here = subst (λ store. IsAt g.D.Disk.facts store s) (sym c.self.view_is) at in
    elim c.match-read_blob.branch [
      | in-Ok w ↦ rw w.result-is (w.in-Ok.ensures.ok s here)
      | in-Err-OutOfMemory w ↦ rw w.result-is tt
      | in-Err w ↦ rw w.result-is tt
    ]

pub returns-clause-calls : goal.returns-clause-calls
returns-clause-calls g c d =
    subst (λ store. AreCallsAtMost (file_sectors (slice_index_or store.entries c.args.position d)) (g.D.Disk.facts store.disk) (g.D.Disk.facts c.read_blob.new.self.disk)) c.self.view_is
    (c.read_blob.ensures.calls d)

pub returns-clause-length : goal.returns-clause-length
returns-clause-length g c d =
    elim c.match-read_blob.branch [
      | in-Ok w ↦ rw w.result-is (subst (λ store. length w.in-Ok.bytes.items ≡ (slice_index_or store.entries c.args.position d).entry.file_length) c.self.view_is (w.in-Ok.ensures.size d))
      | in-Err-OutOfMemory w ↦ rw w.result-is tt
      | in-Err w ↦ rw w.result-is tt
    ]
