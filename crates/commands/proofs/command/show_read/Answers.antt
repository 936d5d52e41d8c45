use Rattle.std.proofs.Common.{inl, refl, subst}
use Rattle.commands.specs.Status.{status_of}
use Rattle.commands.specs.inside.Ends.{IsShown}
use Rattle.commands.proofs.Ending.{image_shown}
use Rattle.commands.proofs.command.show_read.Goals as goal

pub returns-in-Ok-clause-shown : goal.returns-in-Ok-clause-shown
returns-in-Ok-clause-shown g c =
    let w = g.O.Write.contents in
    let run = c.run_image in
    rw (c.in-Ok.is, c.status_of.ensures)
    (subst (λ file. IsShown file c.args.base (w c.args.output.now) (w run.new.writer) (status_of run.result)) c.deref.ensures.value
    (image_shown c.deref.result.now c.args.base (w c.args.output.now) (w run.new.writer) run.result run.ensures.ok run.ensures.err))

pub returns-in-Ok-clause-said : goal.returns-in-Ok-clause-said
returns-in-Ok-clause-said g c = inl refl
