use Rattle.std.proofs.Common.{◌≡◌, ◌+◌, ◌∙◌, List, length, sym, arith, subst, set, Option}
use Rattle.std.proofs.lemmas.List.{length-map}
use Rattle.hash_check.specs.Numbered.{nth_symbol}
use Rattle.hash_check.specs.declared.numbered.NumberedSymbol.{NumberedSymbol}
use Rattle.scope.specs.Objects.{Named}
use Rattle.scope.specs.declared.target.Target.{Target}
use Rattle.scope.specs.inside.Definitions.{AreLast}
use Rattle.scope.proofs.Kept.{last-new}
use Rattle.scope.proofs.definitions.keep_last.Goals as goal

pub returns-then-is_exported : goal.returns-then-is_exported
returns-then-is_exported c =
    let all : List NumberedSymbol = c.args.symbols.now in
    let few = c.requires.numbered.few c.args.at c.requires.at in
    let size : length c.args.last.now ≡ length c.args.symbols.now + 1 = c.requires.last.size in
    subst (λ (x : Option Target). AreLast c.args.objects.now all (c.args.at + 1) (set c.args.last.now (nth_symbol all c.args.at).number x)) (sym c.at.ensures)
    (last-new c.args.objects.now all c.args.last.now c.args.at c.requires.at c.requires.last (sym c.is_exported.ensures ∙ c.if-is_exported.true) (omega (arith, few, size)))

pub overflow_cast-symbol : goal.overflow_cast-symbol
overflow_cast-symbol c = omega (arith, (c.requires.numbered.are.each c.args.at c.requires.at).there, length-map c.args.objects.now (λ (o : Named). o.file), c.requires.few)
