use Rattle.std.proofs.Common.{take}
use Rattle.std.specs.List.{flat_map}
use Rattle.scope.specs.LoadOrder.{names_of}
use Rattle.text_output.specs.Sends.{Sends}
use Rattle.bindings.specs.Dependencies.{found_text}
use Rattle.bindings.proofs.dependencies.Dependencies.put_libraries.Given as goal

abbrev pub invariant-loop-library : goal.invariant-loop-library
invariant-loop-library g l =
    Sends (g.W.Write.contents l.fn.out) l.fn.buffer (g.W.Write.contents l.out) l.buffer
    (flat_map (found_text (names_of l.self.libraries)) (take l.library-index l.self.libraries))
