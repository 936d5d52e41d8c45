use Rattle.std.proofs.Common.{◌≡◌, ◌∙◌, ◌++◌, ◌∷◌, [], length, ap, subst, sym}
use Rattle.std.specs.List.{insert}
use Rattle.store.specs.NameOrder.{entry_names, IsOrderOf}
use Rattle.store.specs.inside.NameIndex.{Index}
use Rattle.store.proofs.NameInserts.{inserted}
use Rattle.store.proofs.name_index.NameIndex.insert.Goals as goal

pub returns : goal.returns
returns c = λ put named.
    let items : c.self.inside.positions.items ≡ c.args.self.now.positions = ap (λ (index : Index). index.positions) c.self.view_is in
    let now : c.insert.new.self.items ≡ insert c.args.self.now.positions c.place_of-place.result (length c.args.entries.now) =
    c.in-Ok.ensures.items ∙ ap (λ l. insert l c.place_of-place.result (length c.args.entries.now)) items in
    subst (IsOrderOf (entry_names (c.args.entries.now ++ put ∷ []))) (sym now)
    (inserted c.args.entries.now c.args.self.now.positions c.args.name.now c.place_of-place.result c.requires.index c.place_of-place.ensures c.requires.new put named)
