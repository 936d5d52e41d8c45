use Rattle.std.proofs.Common.{◌≡◌, None, inl, map, sym, subst, ◌∙◌}
use Rattle.image.specs.Placement.{place}
use Rattle.requests.specs.Binding.{object_of}
use Rattle.scope.specs.LoadOrder.{available}
use Rattle.tool_commands.specs.Bindings.{WholeTells}
use Rattle.tool_parts.specs.Streams.{Streams}
use Rattle.tool_commands.proofs.Known.{lacks-none}
use Rattle.tool_commands.proofs.symbols.tell_found.Goals as goal

pub returns-in-Ok : goal.returns-in-Ok
returns-in-Ok g c =
    let io : Streams = record {
      before = g.O.Write.contents c.args.output.now;
      after = g.O.Write.contents c.tell_whole.new.output;
      errors_before = g.E.Write.contents c.args.errors.now;
      errors_after = g.E.Write.contents c.tell_whole.new.errors;
    } in
    let none : c.args.found.now.missing ≡ None = lacks-none c.args.found.now.missing (sym c.lacks_some.ensures ∙ c.if-lacks_some.false) in
    let libraries : c.deref-else-lacks_some.result.now ≡ map object_of c.args.found.now.libraries = c.deref-else-lacks_some.ensures.value ∙ c.in-Ok.ensures in
    inl (none, subst (λ ls. WholeTells (place c.args.base (available c.args.program.now ls)) io c.tell_whole.result) libraries c.tell_whole.ensures)
