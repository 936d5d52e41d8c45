use Rattle.std.proofs.Common.{◌≡◌, ◌+◌, ◌<◌, ℕ, List, length, map, take, get_or, ap, sym, subst, ◌∙◌, arith}
use Rattle.std.proofs.lemmas.List.{length-map, get_or-map, take_all}
use Rattle.scope.specs.Objects.{Named}
use Rattle.scope.specs.LoadOrder.{names_of}
use Rattle.bindings.specs.inside.Names.{AreNames}
use Rattle.bindings.proofs.Naming.{keys-more, names-more}
use Rattle.bindings.proofs.dependencies.Dependencies.of.Goals as goal

pub loop-library-preserved : goal.loop-library-preserved
loop-library-preserved c =
    let i : ℕ = c.loop-library.library-index in
    let names : List (List ℕ) = names_of c.args.libraries.now in
    let library : Named = c.library-item.result in
    let name : List ℕ = c.name.result.now in
    let lt = c.loop-library-test.true in
    let is : name ≡ get_or names i name = c.name.ensures ∙ ap (λ (o : Named). o.name) c.library-item.is ∙ sym (get_or-map (λ (o : Named). o.name) c.args.libraries.now i library name lt) in
    let inside : i < length names = omega (arith, lt, length-map c.args.libraries.now (λ (o : Named). o.name)) in
    subst (AreNames (take (i + 1) names))
    (sym (ap (map (λ k. k.now)) c.in_ok-insert.ensures.keys ∙ keys-more (λ k. k.now) c.loop-library.names.keys c.name.result))
    (names-more names (map (λ k. k.now) c.loop-library.names.keys) i name inside is c.loop-library.invariant)

pub invariant_of-result : goal.invariant_of-result
invariant_of-result c =
    let names : List (List ℕ) = names_of c.args.libraries.now in
    subst (λ (ns : List (List ℕ)). AreNames ns (map (λ k. k.now) c.loop-library.names.keys))
    (take_all c.loop-library.library-index names (omega (arith, c.loop-library-test.false, length-map c.args.libraries.now (λ (o : Named). o.name))))
    c.loop-library.invariant
