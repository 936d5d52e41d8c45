use Rattle.std.proofs.Common.{◌≡◌, map, false, subst}
use Rattle.std.specs.Prelude.{string_bytes}
use Rattle.program_parts.specs.Streams.{Streams}
use Rattle.commands.specs.Outcome.{LineEnds, reads_input}
use Rattle.commands.specs.Words.{command_line}
use Rattle.commands.proofs.arguments.run_arguments.Goals as goal

pub returns-in-Ok-clause-ends : goal.returns-in-Ok-clause-ends
returns-in-Ok-clause-ends g c =
    let new = c.run_words.new in
    let io : Streams = record {
      unread = g.I.Read.remaining c.args.input.now;
      before = g.O.Write.contents c.args.output.now;
      after = g.O.Write.contents new.output;
      errors_before = g.E.Write.contents c.args.errors.now;
      errors_after = g.E.Write.contents new.errors;
    } in
    rw c.in-Ok.is
    (subst (λ words. LineEnds (command_line (map (λ word. string_bytes word) words)) io c.run_words.result) c.deref.ensures.value c.run_words.ensures.ends)

pub returns-in-Ok-clause-unread : goal.returns-in-Ok-clause-unread
returns-in-Ok-clause-unread g c =
    rw c.in-Ok.is
    (subst (λ words. reads_input (command_line (map (λ word. string_bytes word) words)) ≡ false → c.run_words.new.input ≡ c.args.input.now) c.deref.ensures.value c.run_words.ensures.unread)

pub returns-in-Ok-clause-not_read : goal.returns-in-Ok-clause-not_read
returns-in-Ok-clause-not_read g c = rw c.in-Ok.is tt

pub returns-in-Err-clause-ends : goal.returns-in-Err-clause-ends
returns-in-Err-clause-ends g c = rw c.in-Err.is tt

pub returns-in-Err-2-clause-ends : goal.returns-in-Err-2-clause-ends
returns-in-Err-2-clause-ends g c = rw c.in-Err-2.is tt
