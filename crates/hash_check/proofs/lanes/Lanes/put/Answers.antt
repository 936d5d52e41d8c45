use Rattle.std.proofs.Common.{◌<◌, ◌+◌, ◌∙◌, ℕ, List, length, min, arith, ap}
use Rattle.hash_check.specs.inside.Lanes.{IsLane}
use Rattle.hash_check.proofs.Hashing.{lane-of, lane-put}
use Rattle.hash_check.proofs.lanes.Lanes.put.Goals as goal

pub overflow_add-self : goal.overflow_add-self
overflow_add-self c =
    let table : List ℕ = c.string_table.result.now in
    let new : IsLane c.args.object.now c.args.symbol 0 c.min-place.result (c.min-place.result + c.args.length) =
    lane-of c.args.object.now c.args.symbol c.min-place.result c.args.length table c.requires.exported c.string_table.ensures.table
    (c.min-place.ensures ∙ ap (λ o. min o (length table)) c.offset_of.ensures) c.requires.length in
    omega (arith, new.within, ap length c.string_table.ensures.table)

pub returns-clause-lanes : goal.returns-clause-lanes
returns-clause-lanes c =
    let file : List ℕ = c.args.object.now in
    let place : ℕ = c.min-place.result in
    let end : ℕ = place + c.args.length in
    let table : List ℕ = c.string_table.result.now in
    let new : IsLane file c.args.symbol 0 place end =
    lane-of file c.args.symbol place c.args.length table c.requires.exported c.string_table.ensures.table
    (c.min-place.ensures ∙ ap (λ o. min o (length table)) c.offset_of.ensures) c.requires.length in
    let in-s : c.args.k < length c.args.self.now.symbols = omega (arith, c.requires.within) in
    let in-h : c.args.k < length c.args.self.now.hashes = omega (arith, c.requires.within) in
    let in-p : c.args.k < length c.args.self.now.places = omega (arith, c.requires.within) in
    let in-e : c.args.k < length c.args.self.now.ends = omega (arith, c.requires.within) in
    record {
      each = lane-put file c.args.self.now.symbols c.args.self.now.hashes c.args.self.now.places c.args.self.now.ends c.args.k c.args.symbol place end in-s in-h in-p in-e c.requires.lanes.each new;
    }
