use Rattle.std.specs.Io.Buffered.{reader_remaining}
use Rattle.std.specs.Io.KnownBytes.{append_known}
use Rattle.updates.proofs.Answered.{Answered}
use Rattle.updates.proofs.lines.read_lines.Given as goal

abbrev pub invariant-loop : goal.invariant-loop
invariant-loop g l =
    Answered g.D.Disk.facts (reader_remaining (λ r. g.I.Read.remaining r.now) l.fn.pages) (reader_remaining (λ r. g.I.Read.remaining r.now) l.pages)
    (append_known (g.O.Write.contents l.fn.output) l.fn.waiting.waiting) (append_known (g.O.Write.contents l.output) l.waiting.waiting) l.fn.update l.update
