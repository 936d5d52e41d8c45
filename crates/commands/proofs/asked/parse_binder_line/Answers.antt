use Rattle.std.proofs.Common.{ap, rules, sym, ◌∙◌}
use Rattle.std.proofs.lemmas.Result.{err_from_is_err_and}
use Rattle.std.specs.Option.{option_map}
use Rattle.binders.specs.Events.{begin, advance, cancel}
use Rattle.commands.specs.declared.asked.Asked.TheVariants.{Advance, Cancel}
use Rattle.commands.proofs.BinderLines.{asked_of, begins, advances, cancels, asks_none}
use Rattle.commands.proofs.asked.parse_binder_line.Goals as goal

pub returns-in_err-program : goal.returns-in_err-program
returns-in_err-program c =
    let p = err_from_is_err_and c.from_residual.result c.from_residual.ensures.1 in
    rw p.1 tt

pub returns-in-Some-2 : goal.returns-in-Some-2
returns-in-Some-2 c =
    begins c.args.line.now c.in-Some.rest.now _ c.in-Some.ensures.0 c.in-Some.ensures.1
    (ap (option_map (λ p. begin p.0 p.1)) (ap (λ both. option_map (λ p. (p.0.items, p.1)) both) (sym c.in-Some-2.is) ∙ c.in_ok-program.ensures))

pub returns-in-None : goal.returns-in-None
returns-in-None c =
    begins c.args.line.now c.in-Some.rest.now _ c.in-Some.ensures.0 c.in-Some.ensures.1
    (ap (option_map (λ p. begin p.0 p.1)) (ap (λ both. option_map (λ p. (p.0.items, p.1)) both) (sym c.in-None.is) ∙ c.in_ok-program.ensures))

pub returns-in-Some-behind : goal.returns-in-Some-behind
returns-in-Some-behind c =
    let some = c.in-Some-behind in
    let is = asked_of (λ k. Advance k) _ (λ k a is. search rules) c.slot_in.result c.map.result c.map.ensures.cases in
    advances c.args.line.now some.rest.now _ c.in_default.ensures some.ensures.0 some.ensures.1 (is ∙ ap (option_map advance) c.slot_in.ensures)

pub returns-in-Some-behind-2 : goal.returns-in-Some-behind-2
returns-in-Some-behind-2 c =
    let some = c.in-Some-behind-2 in
    let slot = c.slot_in-in-Some-behind-2 in
    let map = c.map-in-Some-behind-2 in
    let is = asked_of (λ k. Cancel k) _ (λ k a is. search rules) slot.result map.result map.ensures.cases in
    cancels c.args.line.now some.rest.now _ c.in_default.ensures c.in_default-behind.ensures some.ensures.0 some.ensures.1 (is ∙ ap (option_map cancel) slot.ensures)

pub returns : goal.returns
returns c = asks_none c.args.line.now c.in_default.ensures c.in_default-behind.ensures c.in_default-behind-2.ensures
