use Rattle.std.proofs.Common.{◌≡◌, ◌+◌, ◌++◌, ◌∷◌, [], ◌<◌, ℕ, length, get_or, map, take, Bor, List, false, refl, sym, ap, subst, ◌∙◌, arith, rules}
use Rattle.std.specs.List.{list_any}
use Rattle.std.specs.Prelude.{not, All}
use Rattle.std.proofs.lemmas.Bool.{false≢true}
use Rattle.std.proofs.lemmas.List.{get_or-map, length-map, map-append, take_more, take_all}
use Rattle.std.proofs.lemmas.List.Elements.{All-push}
use Rattle.store.specs.Stands.{names_at}
use Rattle.states.specs.State.{names_of, has_name}
use Rattle.registry.specs.inside.Named.{AreNamed}
use Rattle.registry.proofs.Names.{lacks_at, none_some, names_more, named_more, none_lacks}
use Rattle.registry.proofs.tests.positions_of.Goals as goal

pub returns-in_default-clause-lacking : goal.returns-in_default-clause-lacking
returns-in_default-clause-lacking g c s at =
    let i = c.loop-name.name-index in
    let names = map (λ (n : Bor (List ℕ)). n.now) c.args.names.now in
    let none : Bor (List ℕ) = record { ref_ptr = (0, 0); now = [] } in
    let lt : i < length names = omega (arith, c.loop-name-test.true, length-map c.args.names.now (λ (n : Bor (List ℕ)). n.now)) in
    let its : get_or names i [] ≡ (get_or c.args.names.now i none).now = get_or-map (λ (n : Bor (List ℕ)). n.now) c.args.names.now i none [] c.loop-name-test.true in
    (λ isnt. lacks_at s names i lt (λ k k_lt is. none_some ((c.in_default.ensures.state s at k).1 (k_lt, is ∙ its))), λ lacking. refl)

pub loop-name-preserved : goal.loop-name-preserved
loop-name-preserved g c =
    let i = c.loop-name.name-index in
    let now = λ (n : Bor (List ℕ)). n.now in
    let none : Bor (List ℕ) = record { ref_ptr = (0, 0); now = [] } in
    let name = (get_or c.args.names.now i none).now in
    let more : map now (take (i + 1) c.args.names.now) ≡ map now (take i c.args.names.now) ++ name ∷ [] =
    ap (map now) (take_more c.args.names.now i none c.loop-name-test.true) ∙ map-append now (take i c.args.names.now) (get_or c.args.names.now i none ∷ []) in
    let position = c.in-Some.position in
    let found = c.in-Some.ensures.some in
    let entries = g.L.Listed.entries c.args.list.now in
    record {
      count = search rules;
      named = subst (λ ps. AreNamed entries ps (map now (take (i + 1) c.args.names.now))) (sym c.push.ensures.items)
          (subst (AreNamed entries (c.loop-name.positions.items ++ position ∷ [])) (sym more) (named_more position name c.loop-name.invariant.named found.0 found.1));
      within = λ s at. subst (All (λ p. p < length s.libraries)) (sym c.push.ensures.items)
          (All-push (λ p. p < length s.libraries) c.loop-name.positions.items position (c.loop-name.invariant.within s at) ((c.in-Some.ensures.state s at position).0 refl).0);
      state = λ s at.
          ap (names_at s.libraries) c.push.ensures.items
          ∙ names_more s c.loop-name.positions.items position (map now (take i c.args.names.now)) name (c.loop-name.invariant.state s at) ((c.in-Some.ensures.state s at position).0 refl).1
          ∙ sym more;
    }

pub returns-clause-lacking : goal.returns-clause-lacking
returns-clause-lacking g c s at =
    let now = λ (n : Bor (List ℕ)). n.now in
    let names = map now c.args.names.now in
    let items = c.loop-name.positions.items in
    let are : names_at s.libraries items ≡ names = c.loop-name.invariant.state s at ∙ ap (map now) (take_all c.loop-name.name-index c.args.names.now (omega (arith, c.loop-name-test.false))) in
    let inside = c.loop-name.invariant.within s at in
    let free : list_any (λ name. not (has_name (names_of s.libraries) name)) names ≡ false = ap (list_any (λ name. not (has_name (names_of s.libraries) name))) (sym are) ∙ none_lacks s items inside in
    (λ isnt. absurd (false≢true (sym isnt)), λ lacking. sym lacking ∙ free)
