use Rattle.std.proofs.Common.{List, Option, Vec, Global, ap, sym, set, []}
use Rattle.std.proofs.lemmas.List.{get_or-map}
use Rattle.scope.specs.declared.target.Target.{Target}
use Rattle.scope.proofs.Rows.{put-at}
use Rattle.scope.proofs.definition_table.put.Goals as goal

pub returns : goal.returns
returns c =
    let items : Vec (Option Target) Global → List (Option Target) = λ v. v.items in
    put-at items c.args.rows.now c.args.place c.args.symbol _ c.args.found c.requires.place c.requires.symbol
    (ap (λ (l : List (Option Target)). set l c.args.symbol c.args.found) (sym (get_or-map items c.args.rows.now c.args.place c.index-rows-place.result [] c.requires.place)))
