use Rattle.std.proofs.Common.{Some, map, subst, sym}
use Rattle.std.specs.Prelude.{string_bytes}
use Rattle.commands.specs.Outcome.{CommandEnds}
use Rattle.commands.specs.Script.{Streams}
use Rattle.commands.specs.Words.{line_of, remove}
use Rattle.commands.proofs.Asking.{install_ends, replace_ends, remove_ends, preload_ends, list_ends}
use Rattle.commands.proofs.command.run_action.Goals as goal

pub returns-in-Remove-clause-ends : goal.returns-in-Remove-clause-ends
returns-in-Remove-clause-ends g c =
    let io : Streams = record { unread = g.I.Read.remaining c.args.input.now; before = g.O.Write.contents c.args.output.now; after = g.O.Write.contents c.ask.new.output } in
    subst (λ a. CommandEnds (Some (line_of a)) io c.ask.result) (sym c.in-Remove.is)
    (subst (λ name. CommandEnds (Some (remove c.in-Remove.disk.now name)) io c.ask.result) c.as_bytes.ensures.value (remove_ends io c.in-Remove.disk.now _ _ c.ask.ensures.ends))

pub returns-in-Preload-clause-ends : goal.returns-in-Preload-clause-ends
returns-in-Preload-clause-ends g c =
    let io : Streams = record { unread = g.I.Read.remaining c.args.input.now; before = g.O.Write.contents c.args.output.now; after = g.O.Write.contents c.preload.new.output } in
    subst (λ a. CommandEnds (Some (line_of a)) io c.preload.result) (sym c.in-Preload.is)
    (preload_ends io c.in-Preload.disk.now (map (λ name. string_bytes name) c.in-Preload.names.now) _ c.preload.ensures.ends)

pub returns-in-Install-clause-ends : goal.returns-in-Install-clause-ends
returns-in-Install-clause-ends g c =
    let io : Streams = record { unread = g.I.Read.remaining c.args.input.now; before = g.O.Write.contents c.args.output.now; after = g.O.Write.contents c.ask_with.new.output } in
    subst (λ a. CommandEnds (Some (line_of a)) io c.ask_with.result) (sym c.in-Install.is) (install_ends io c.in-Install.disk.now c.in-Install.file.now _ c.ask_with.ensures.ends)

pub returns-in-Replace-clause-ends : goal.returns-in-Replace-clause-ends
returns-in-Replace-clause-ends g c =
    let io : Streams = record { unread = g.I.Read.remaining c.args.input.now; before = g.O.Write.contents c.args.output.now; after = g.O.Write.contents c.ask_with-in-Replace.new.output } in
    subst (λ a. CommandEnds (Some (line_of a)) io c.ask_with-in-Replace.result) (sym c.in-Replace.is)
    (replace_ends io c.in-Replace.disk.now c.in-Replace.file.now _ c.ask_with-in-Replace.ensures.ends)

pub returns-in-List-clause-ends : goal.returns-in-List-clause-ends
returns-in-List-clause-ends g c =
    let io : Streams = record { unread = g.I.Read.remaining c.args.input.now; before = g.O.Write.contents c.args.output.now; after = g.O.Write.contents c.ask-in-List.new.output } in
    subst (λ a. CommandEnds (Some (line_of a)) io c.ask-in-List.result) (sym c.in-List.is) (list_ends io c.in-List.disk.now _ c.ask-in-List.ensures.ends)
