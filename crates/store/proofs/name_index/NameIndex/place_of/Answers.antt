use Rattle.std.proofs.Common.{◌≡◌, ◌∙◌, ap, subst, sym, rules}
use Rattle.std.specs.Ordering.{is_lt}
use Rattle.std.proofs.lemmas.List.Sorted.{IsPartitionPoint-from_clause}
use Rattle.store.specs.NameOrder.{entry_names, IsOrderOf}
use Rattle.store.specs.inside.NameIndex.{order_to, Index, IsPlace}
use Rattle.store.proofs.NameIndex.{partitioned, place_from}
use Rattle.store.proofs.name_index.NameIndex.place_of.Goals as goal

pub returns : goal.returns
returns c =
    let same : c.args.self.now.positions ≡ c.deref.result.now = sym (c.deref.ensures.value ∙ ap (λ (index : Index). index.positions) c.self.view_is) in
    let order = subst (IsOrderOf (entry_names c.args.entries.now)) same c.requires.index in
    let point = IsPartitionPoint-from_clause
    (λ position. is_lt (order_to (entry_names c.args.entries.now) c.args.name.now position)) c.deref.result.now c.partition_point.result
    c.partition_point.ensures.partitioned
    (partitioned (entry_names c.args.entries.now) c.deref.result.now c.args.name.now order) (λ a r f k. search rules) in
    subst (λ l. IsPlace (entry_names c.args.entries.now) l c.args.name.now c.partition_point.result) (sym same)
    (place_from (entry_names c.args.entries.now) c.deref.result.now c.args.name.now c.partition_point.result c.partition_point.ensures.bound point)
