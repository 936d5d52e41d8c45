use Rattle.std.proofs.Common.{◌≤◌, length, take}
use Rattle.std.specs.Io.KnownBytes.{Appends}
use Rattle.program_parts.proofs.message.say.Given as goal

abbrev pub invariant-loop : goal.invariant-loop
invariant-loop g l =
    (l.given ≤ length l.line) × Appends (g.E.Write.contents l.fn.errors) (g.E.Write.contents l.errors) (take l.given l.line)
