use Rattle.std.proofs.Common.{◌+◌, arith, subst, sym}
use Rattle.std.proofs.lemmas.List.{with_items_is}
use Rattle.scope.specs.inside.Definitions.{AreFirst}
use Rattle.scope.proofs.Kept.{first-none}
use Rattle.scope.proofs.definitions.first_definitions.Goals as goal

pub loop-at-preserved : goal.loop-at-preserved
loop-at-preserved c =
    subst (AreFirst c.args.objects.now c.args.symbols.now (c.loop-at.at + 1))
    (sym (with_items_is c.loop-at.first c.keep_first.new.first (omega (arith, c.keep_first.auto.first, c.deref_mut.ensures.len))))
    c.keep_first.ensures

pub loop-at-init : goal.loop-at-init
loop-at-init c = first-none c.args.objects.now c.args.symbols.now c.in_ok-first.first.items c.in_ok-first.ensures
