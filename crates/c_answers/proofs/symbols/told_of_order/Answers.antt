use Rattle.image.specs.Placement.{place}
use Rattle.c_answers.proofs.Bindings.{placed-told, placed-untold, unplaced-as}
use Rattle.c_answers.proofs.symbols.told_of_order.Goals as goal

pub returns-in-Ok-clause-ok : goal.returns-in-Ok-clause-ok
returns-in-Ok-clause-ok c =
    let told = c.told_of_bindings in
    placed-told (place c.args.base c.args.order.now) c.in-Ok.bindings told.result c.in-Ok.ensures.ok c.in-Ok.ensures.room told.ensures.number told.ensures.text

pub returns-in-Ok-clause-err : goal.returns-in-Ok-clause-err
returns-in-Ok-clause-err c = placed-untold (place c.args.base c.args.order.now) c.told_of_bindings.result c.told_of_bindings.ensures.err

pub returns-in-Err-clause-err : goal.returns-in-Err-clause-err
returns-in-Err-clause-err c = unplaced-as (place c.args.base c.args.order.now) c.in-Err.refusal c.from.result c.in-Err.ensures.refused c.from.ensures
