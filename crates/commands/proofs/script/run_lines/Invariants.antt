use Rattle.std.proofs.Common.{ℕ, List}
use Rattle.std.specs.Io.Buffered.{reader_remaining}
use Rattle.std.specs.Io.KnownBytes.{append_known}
use Rattle.commands.specs.inside.Progress.{Answered, Told}
use Rattle.commands.specs.declared.answer.Answer.{Answer}
use Rattle.commands.proofs.script.run_lines.Given as goal

abbrev pub invariant-loop : goal.invariant-loop
invariant-loop g l =
    (held : _) × (whole : List (List ℕ)) × (answers : List Answer)
    × Answered g.G.TakesEvents.step
    (record { unread = reader_remaining (λ r. g.R.Read.remaining r.now) l.fn.pages; written = g.W.Write.contents l.fn.writer })
    (record { unread = reader_remaining (λ r. g.R.Read.remaining r.now) l.pages; written = append_known (g.W.Write.contents l.writer) l.waiting.waiting })
    l.fn.binders l.binders l.summary whole answers
    × Told (g.W.Write.contents l.fn.writer) (g.W.Write.contents held) whole answers
