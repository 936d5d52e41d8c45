use Rattle.std.proofs.Common.{List, All, take}
use Rattle.std.specs.List.{flat_map}
use Rattle.requests.specs.Library.{IsLibrary}
use Rattle.states.specs.State.{Library, State}
use Rattle.store.specs.IsRead.{IsRead}
use Rattle.store.specs.Opened.{IsAt}
use Rattle.text_output.specs.Sends.{Sends}
use Rattle.tool_commands.specs.Dump.{install_text}
use Rattle.tool_commands.proofs.dump.put_libraries.Given as goal

abbrev pub invariant-loop-position : goal.invariant-loop-position
invariant-loop-position g l = record {
  read : IsRead g.D.Disk.facts l.fn.contents l.contents;
  sound : (s : State) → IsAt g.D.Disk.facts l.fn.contents s → All IsLibrary (take l.position s.libraries);
  sends : (s : State) → IsAt g.D.Disk.facts l.fn.contents s → Sends (g.W.Write.contents l.fn.out) l.fn.script (g.W.Write.contents l.out) l.script
      (flat_map install_text (take l.position s.libraries));
  told : (libraries : List Library) × Sends (g.W.Write.contents l.fn.out) l.fn.script (g.W.Write.contents l.out) l.script (flat_map install_text libraries);
}
