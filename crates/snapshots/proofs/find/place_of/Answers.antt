use Rattle.std.proofs.Common.{rules}
use Rattle.std.specs.Ordering.{is_lt}
use Rattle.std.proofs.lemmas.List.Sorted.{IsPartitionPoint-from_clause}
use Rattle.store.specs.NameOrder.{entry_names}
use Rattle.store.specs.inside.NameIndex.{order_to}
use Rattle.store.proofs.NameIndex.{partitioned, place_from}
use Rattle.snapshots.proofs.find.place_of.Goals as goal

pub returns : goal.returns
returns g c entries held order =
    let point = IsPartitionPoint-from_clause
    (λ position. is_lt (order_to (entry_names entries) c.args.name.now position)) c.args.order.now c.partition_point.result
    c.partition_point.ensures.partitioned
    (partitioned (entry_names entries) c.args.order.now c.args.name.now order) (λ a r f k. search rules) in
    place_from (entry_names entries) c.args.order.now c.args.name.now c.partition_point.result c.partition_point.ensures.bound point
