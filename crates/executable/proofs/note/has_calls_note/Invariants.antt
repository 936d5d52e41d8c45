use Rattle.std.proofs.Common.{◌≡◌, ◌-◌, length}
use Rattle.executable.specs.Note.{has_calls_note}
use Rattle.executable.proofs.note.has_calls_note.Given as goal

abbrev pub invariant-loop : goal.invariant-loop
invariant-loop l = has_calls_note (length l.notes - l.counter) l.rest ≡ has_calls_note (length l.notes) l.notes
