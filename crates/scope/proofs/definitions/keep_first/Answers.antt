use Rattle.std.proofs.Common.{◌≡◌, ◌<◌, ◌+◌, ◌∙◌, List, length, Bool, true, false, Option, Some, None, refl, sym, arith, subst, set}
use Rattle.std.specs.Prelude.{is_some, not}
use Rattle.std.proofs.lemmas.Bool.{false≢true}
use Rattle.std.proofs.lemmas.List.{get_or_default, length-map}
use Rattle.hash_check.specs.Numbered.{nth_symbol}
use Rattle.hash_check.specs.declared.numbered.NumberedSymbol.{NumberedSymbol}
use Rattle.scope.specs.Objects.{Named}
use Rattle.scope.specs.declared.target.Target.{Target}
use Rattle.scope.specs.inside.Definitions.{nth_target, AreFirst}
use Rattle.scope.proofs.Kept.{first-new}
use Rattle.scope.proofs.definitions.keep_first.Goals as goal

none-is : {X : Type 0} (o : Option X) (b : Bool) → is_some o ≡ not b → b ≡ true → o ≡ None
none-is None b e is = refl
none-is (Some x) true e is = absurd (false≢true (sym e))
none-is (Some x) false e is = absurd (false≢true is)

pub returns-then-is_exported : goal.returns-then-is_exported
returns-then-is_exported c =
    let all : List NumberedSymbol = c.args.symbols.now in
    let few = c.requires.numbered.few c.args.at c.requires.at in
    let size : length c.args.first.now ≡ length c.args.symbols.now + 1 = c.requires.first.size in
    let room : (nth_symbol all c.args.at).number < length c.args.first.now = omega (arith, few, size) in
    let none : nth_target c.args.first.now (nth_symbol all c.args.at).number ≡ None =
    sym (get_or_default c.args.first.now (nth_symbol all c.args.at).number c.index-first-number.result None room) ∙ sym c.target.ensures
    ∙ none-is c.target.result c.is_none.result c.is_none.ensures c.if-is_none.true in
    subst (λ (x : Option Target). AreFirst c.args.objects.now all (c.args.at + 1) (set c.args.first.now (nth_symbol all c.args.at).number x)) (sym c.at.ensures)
    (first-new c.args.objects.now all c.args.first.now c.args.at c.requires.at c.requires.first
    (sym c.is_exported.ensures ∙ c.if-is_exported.true) room none)

pub overflow_cast-symbol : goal.overflow_cast-symbol
overflow_cast-symbol c = omega (arith, (c.requires.numbered.are.each c.args.at c.requires.at).there, length-map c.args.objects.now (λ (o : Named). o.file), c.requires.few)

pub is_exported-requires-clause-there : goal.is_exported-requires-clause-there
is_exported-requires-clause-there c = omega (arith, (c.requires.numbered.are.each c.args.at c.requires.at).there, length-map c.args.objects.now (λ (o : Named). o.file))
