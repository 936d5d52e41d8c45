use Rattle.std.proofs.Common.{◌≡◌, true, sym, subst}
use Rattle.std.specs.Prelude.{IfErr, IfOk}
use Rattle.image.specs.Placement.{is_good_base, place}
use Rattle.scope.specs.Objects.{file_at}
use Rattle.c_answers.specs.inside.Bindings.{IsPlacedText, IsUnplaced}
use Rattle.c_answers.proofs.symbols.told_of_whole.Goals as goal

pub told_of_order-requires : goal.told_of_order-requires
told_of_order-requires c = subst (λ o. is_good_base (file_at o 0) c.args.base ≡ true) (sym c.in-Ok.ensures) c.requires

pub returns-in-Ok-clause-ok : goal.returns-in-Ok-clause-ok
returns-in-Ok-clause-ok c =
    subst (λ o. IfOk c.told_of_order.result (λ told. IsPlacedText (place c.args.base o) told.number told.text.items)) c.in-Ok.ensures c.told_of_order.ensures.ok

pub returns-in-Ok-clause-err : goal.returns-in-Ok-clause-err
returns-in-Ok-clause-err c = subst (λ o. IfErr c.told_of_order.result (IsUnplaced (place c.args.base o))) c.in-Ok.ensures c.told_of_order.ensures.err
