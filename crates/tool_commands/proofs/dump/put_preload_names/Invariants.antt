use Rattle.std.proofs.Common.{List, take}
use Rattle.std.specs.List.{flat_map}
use Rattle.states.specs.State.{Library}
use Rattle.text_output.specs.Pieces.{EndsWithinLine}
use Rattle.text_output.specs.Sends.{Sends}
use Rattle.tool_commands.specs.inside.Listed.{Lists}
use Rattle.tool_commands.proofs.Installs.{spaced}
use Rattle.tool_commands.proofs.dump.put_preload_names.Given as goal

abbrev pub invariant-loop-position : goal.invariant-loop-position
invariant-loop-position g l = record {
  sends : (libraries : List Library) → Lists g.D.Disk.facts l.store libraries → Sends (g.W.Write.contents l.fn.out) l.fn.script (g.W.Write.contents l.out) l.script
      (flat_map (spaced libraries) (take l.position-index l.positions));
  within : EndsWithinLine l.fn.script.waiting → EndsWithinLine l.script.waiting;
}
