use Rattle.std.proofs.Common.{◌≡◌, ◌<◌, ◌-◌, ℕ, List, length, take, drop, arith}
use Rattle.hash_check.proofs.Fronts.{front-is, front-stops, front-never}
use Rattle.hash_check.proofs.search.string_front.Goals as goal

pub returns-then-front-i-eq0 : goal.returns-then-front-i-eq0
returns-then-front-i-eq0 c =
    let t : List ℕ = c.args.table.now in
    let front : List ℕ = take c.min-2.result (take (length t - c.min.result) (drop c.min.result t)) in
    let is : front ≡ take c.args.limit (drop c.args.offset t) = front-is t c.args.offset c.min.result c.args.limit c.min-2.result c.min.ensures c.min-2.ensures in
    let lt : c.loop-i.i < length (take c.min-2.result (take (length c.args.table.now - c.min.result) (drop c.min.result c.args.table.now))) = omega arith in
    front-stops t c.args.offset c.args.limit c.loop-i.i front is lt c.loop-i.invariant c.if-front-i-eq0.true

pub returns : goal.returns
returns c =
    let t : List ℕ = c.args.table.now in
    let front : List ℕ = take c.min-2.result (take (length t - c.min.result) (drop c.min.result t)) in
    let is : front ≡ take c.args.limit (drop c.args.offset t) = front-is t c.args.offset c.min.result c.args.limit c.min-2.result c.min.ensures c.min-2.ensures in
    front-never t c.args.offset c.args.limit front is (λ k lt. c.loop-i.invariant k (omega arith))
