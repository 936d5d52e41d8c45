use Rattle.std.proofs.Common.{Some, refl, sym, ap, ◌∙◌}
use Rattle.std.proofs.lemmas.Bool.{false≢true}
use Rattle.states.specs.State.{has_name}
use Rattle.registry.proofs.Names.{name_stands, name_nowhere, none_some, no_preload, same_preload, some_same}
use Rattle.registry.proofs.Tested.{remove_absent, remove_preload, remove_tested}
use Rattle.registry.proofs.tests.test_remove.Goals as goal

pub returns-in_default-clause-refused : goal.returns-in_default-clause-refused
returns-in_default-clause-refused g c s at t is =
    remove_absent t c.args.name.now (ap (λ ns. has_name ns c.args.name.now) is.0 ∙ name_nowhere s c.args.name.now (λ i lt named. none_some ((c.in_default.ensures.state s at i).1 (lt, named))))

pub returns-then-is_preload-clause-refused : goal.returns-then-is_preload-clause-refused
returns-then-is_preload-clause-refused g c s at t is =
    let name = c.args.name.now in
    let position = c.in-Some.position in
    let stands = (c.in-Some.ensures.state s at position).0 refl in
    let preload = same_preload s name position (g.L.Listed.chosen c.args.list.now) (c.is_preload.ensures.within s at)
    (λ k. (λ same. (c.in-Some.ensures.state s at k).0 (ap Some same), λ both. some_same ((c.in-Some.ensures.state s at k).1 both))) in
    remove_preload t name (ap (λ ns. has_name ns name) is.0 ∙ name_stands s name position stands.0 stands.1)
    (ap (λ ns. has_name ns name) (is.1 ∙ c.is_preload.ensures.state s at) ∙ sym preload ∙ sym c.is_preload.ensures.is ∙ c.if-is_preload.true)

pub returns-clause-ok : goal.returns-clause-ok
returns-clause-ok g c s at t is =
    let name = c.args.name.now in
    let position = c.in-Some.position in
    let stands = (c.in-Some.ensures.state s at position).0 refl in
    let preload = same_preload s name position (g.L.Listed.chosen c.args.list.now) (c.is_preload.ensures.within s at)
    (λ k. (λ same. (c.in-Some.ensures.state s at k).0 (ap Some same), λ both. some_same ((c.in-Some.ensures.state s at k).1 both))) in
    remove_tested t name (ap (λ ns. has_name ns name) is.0 ∙ name_stands s name position stands.0 stands.1)
    (ap (λ ns. has_name ns name) (is.1 ∙ c.is_preload.ensures.state s at) ∙ sym preload ∙ sym c.is_preload.ensures.is ∙ c.if-is_preload.false)

pub returns-clause-present : goal.returns-clause-present
returns-clause-present g c = (c.in-Some.position, c.in-Some.ensures.some.0, λ d. c.in-Some.ensures.some.1 d)

pub returns-clause-no_preload : goal.returns-clause-no_preload
returns-clause-no_preload g c =
    no_preload (g.L.Listed.entries c.args.list.now) c.args.name.now c.in-Some.position (g.L.Listed.chosen c.args.list.now) c.in-Some.ensures.own_names
    c.in-Some.ensures.some.0 c.in-Some.ensures.some.1 c.is_preload.ensures.inside (sym c.is_preload.ensures.is ∙ c.if-is_preload.false)

pub returns-then-has_failed-clause-refused : goal.returns-then-has_failed-clause-refused
returns-then-has_failed-clause-refused g c s at t is = absurd (false≢true (sym (g.met.L.Listed.usable c.args.list.now s at) ∙ sym c.has_failed.ensures ∙ c.if-has_failed.true))
