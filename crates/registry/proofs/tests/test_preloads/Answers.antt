use Rattle.std.proofs.Common.{map, refl, sym, ap, ◌∙◌}
use Rattle.std.specs.List.{list_any}
use Rattle.std.specs.Prelude.{not}
use Rattle.std.proofs.lemmas.Bool.{false≢true}
use Rattle.states.specs.State.{has_name, names_of}
use Rattle.registry.proofs.Names.{isnt_true, distinct_named}
use Rattle.registry.proofs.Tested.{preloads_lacking, preloads_many, preloads_repeated, preloads_tested}
use Rattle.registry.proofs.tests.test_preloads.Goals as goal

pub returns-in-Some-clause-ok : goal.returns-in-Some-clause-ok
returns-in-Some-clause-ok g c s at t is =
    let names = map (λ n. n.now) c.args.names.now in
    preloads_tested t names (sym c.are_too_many.ensures ∙ c.if-are_too_many.false) (sym c.has_repeat.ensures ∙ c.if-has_repeat.false)
    (ap (λ ns. list_any (λ name. not (has_name ns name)) names) is.0
    ∙ isnt_true (list_any (λ name. not (has_name (names_of s.libraries) name)) names) (λ yes. false≢true (sym ((c.in-Some.ensures.lacking s at).1 yes))))

pub returns-in-Some-clause-distinct : goal.returns-in-Some-clause-distinct
returns-in-Some-clause-distinct g c =
    distinct_named (g.L.Listed.entries c.args.list.now) c.in-Some.positions.items (map (λ n. n.now) c.args.names.now) c.in-Some.ensures.named (sym c.has_repeat.ensures ∙ c.if-has_repeat.false)

pub returns-in-None-clause-refused : goal.returns-in-None-clause-refused
returns-in-None-clause-refused g c s at t is =
    let names = map (λ n. n.now) c.args.names.now in
    preloads_lacking t names (sym c.are_too_many.ensures ∙ c.if-are_too_many.false) (sym c.has_repeat.ensures ∙ c.if-has_repeat.false)
    (ap (λ ns. list_any (λ name. not (has_name ns name)) names) is.0 ∙ (c.in-None.ensures.lacking s at).0 refl)

pub returns-then-are_too_many-clause-refused : goal.returns-then-are_too_many-clause-refused
returns-then-are_too_many-clause-refused g c s at t is = preloads_many t (map (λ n. n.now) c.args.names.now) (sym c.are_too_many.ensures ∙ c.if-are_too_many.true)

pub returns-then-has_repeat-clause-refused : goal.returns-then-has_repeat-clause-refused
returns-then-has_repeat-clause-refused g c s at t is =
    preloads_repeated t (map (λ n. n.now) c.args.names.now) (sym c.are_too_many.ensures ∙ c.if-are_too_many.false) (sym c.has_repeat.ensures ∙ c.if-has_repeat.true)

pub returns-then-has_failed-clause-refused : goal.returns-then-has_failed-clause-refused
returns-then-has_failed-clause-refused g c s at t is = absurd (false≢true (sym (g.met.L.Listed.usable c.args.list.now s at) ∙ sym c.has_failed.ensures ∙ c.if-has_failed.true))

pub returns-then-has_failed-clause-device : goal.returns-then-has_failed-clause-device
returns-then-has_failed-clause-device g c is = cc

pub returns-then-are_too_many-clause-device : goal.returns-then-are_too_many-clause-device
returns-then-are_too_many-clause-device g c is = cc

pub returns-then-has_repeat-clause-device : goal.returns-then-has_repeat-clause-device
returns-then-has_repeat-clause-device g c is = cc

pub returns-in-Some-clause-device : goal.returns-in-Some-clause-device
returns-in-Some-clause-device g c is = cc

pub returns-in-None-clause-device : goal.returns-in-None-clause-device
returns-in-None-clause-device g c is = cc
