use Rattle.std.proofs.Common.{sym, subst}
use Rattle.commands.specs.inside.Asked.{happening_asked}
use Rattle.commands.proofs.answer.happen.Goals as goal

pub returns-in-Advance : goal.returns-in-Advance
returns-in-Advance g c =
    let happen = c.happen-in-Advance in
    subst (λ a. g.G.TakesEvents.step c.args.binders.now (happening_asked a) happen.result happen.new.self) (sym c.in-Advance.is) happen.ensures.step
