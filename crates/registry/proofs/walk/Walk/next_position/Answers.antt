use Rattle.std.proofs.Common.{◌+◌, ◌<◌, ℕ, List, length, get_or, arith}
use Rattle.registry.proofs.FilesRead.{place-above}
use Rattle.registry.proofs.walk.Walk.next_position.Goals as goal

pub overflow_sub-result : goal.overflow_sub-result
overflow_sub-result c =
    let places : List ℕ = c.args.self.now.needs.places.places in
    let n : ℕ = c.len.result in
    let lt : n + 1 < length places = omega (arith, c.requires.next, c.len.ensures) in
    let above : 0 < get_or places (n + 1) 0 = place-above places n c.requires.first c.places_are_apart.ensures.distinct lt in
    omega (arith, c.at.ensures.at, above)

pub returns-clause-inside : goal.returns-clause-inside
returns-clause-inside c =
    let places : List ℕ = c.args.self.now.needs.places.places in
    let n : ℕ = c.len.result in
    let lt : n + 1 < length places = omega (arith, c.requires.next, c.len.ensures) in
    let above : 0 < get_or places (n + 1) 0 = place-above places n c.requires.first c.places_are_apart.ensures.distinct lt in
    omega (arith, c.at.ensures.at, c.at.ensures.below, above)

pub returns-clause-above : goal.returns-clause-above
returns-clause-above c = place-above c.args.self.now.needs.places.places (length c.args.self.now.files.items) c.requires.first c.places_are_apart.ensures.distinct c.requires.next
