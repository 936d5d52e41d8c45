use Rattle.std.proofs.Common.{◌++◌, codes, length, map, take}
use Rattle.std.specs.List.{flat_map}
use Rattle.elf_dynamic.specs.Strings.{needed}
use Rattle.scope.specs.LoadOrder.{names_of}
use Rattle.text_output.specs.Sends.{Sends}
use Rattle.bindings.specs.Bindings.{name_line}
use Rattle.bindings.specs.Dependencies.{need_text}
use Rattle.bindings.proofs.dependencies.Dependencies.put_object.Given as goal

abbrev pub invariant-loop-needed : goal.invariant-loop-needed
invariant-loop-needed g l =
    Sends (g.W.Write.contents l.fn.out) l.fn.buffer (g.W.Write.contents l.out) l.buffer
    (name_line (codes "found ") l.name
    ++ flat_map (need_text (names_of l.self.libraries)) (map (λ n. record { needer = l.name; name = n }) (take (length l.yielded) (needed l.object))))
