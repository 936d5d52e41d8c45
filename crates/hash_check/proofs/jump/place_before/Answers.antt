use Rattle.std.proofs.Common.{◌≡◌, arith, subst, sym, Some, ◌∙◌, ◌+◌}
use Rattle.hash_check.specs.inside.Places.{IsBefore}
use Rattle.hash_check.specs.declared.place.Place.{Place}
use Rattle.hash_check.proofs.Knowing.{jump_known, jump_index, jump_far, depth_bound, joined, single}
use Rattle.hash_check.proofs.jump.place_before.Goals as goal

pub known_place-far-requires-clause-within : goal.known_place-far-requires-clause-within
known_place-far-requires-clause-within c = jump_index c.args.chains.now c.args.places.now c.args.next c.known_place-place.result c.requires.sound c.known_place-place.ensures

pub known_place-far-requires-clause-known : goal.known_place-far-requires-clause-known
known_place-far-requires-clause-known c = jump_known c.args.chains.now c.args.places.now c.args.next c.known_place-place.result c.requires.sound c.known_place-place.ensures

pub overflow_sub-place : goal.overflow_sub-place
overflow_sub-place c = (c.requires.sound.says c.args.next c.known_place-place.result c.known_place-place.ensures).landing

pub overflow_sub-place-2 : goal.overflow_sub-place-2
overflow_sub-place-2 c = jump_far c.args.chains.now c.args.places.now c.args.next c.known_place-place.result c.known_place-far.result
    c.requires.sound c.known_place-place.ensures c.known_place-far.ensures

pub overflow_add-result : goal.overflow_add-result
overflow_add-result c = omega (
  arith,
  c.requires.limit,
  depth_bound c.args.chains.now c.args.places.now c.args.next c.known_place-place.result c.requires.words c.requires.within c.requires.sound
      c.known_place-place.ensures,
)

pub overflow_add-result-else-place-far : goal.overflow_add-result-else-place-far
overflow_add-result-else-place-far c = omega (
  arith,
  c.requires.limit,
  depth_bound c.args.chains.now c.args.places.now c.args.next c.known_place-place.result c.requires.words
      c.requires.within c.requires.sound c.known_place-place.ensures,
)

pub returns-then-place-far : goal.returns-then-place-far
returns-then-place-far c p at =
    let same : c.known_place-place.result ≡ p = let e : Some c.known_place-place.result ≡ Some p = sym c.known_place-place.ensures ∙ at in cc in
    let new : Place = record { depth = c.known_place-place.result.depth + 1; jump = c.known_place-far.result.jump; landing = c.known_place-far.result.landing; head = c.args.head } in
    subst (λ q. IsBefore c.args.chains.now c.args.head c.args.next q new) same
    (joined c.args.chains.now c.args.places.now c.args.head c.args.next c.known_place-place.result c.known_place-far.result c.requires.sound c.known_place-place.ensures c.known_place-far.ensures)

pub returns-else-place-far : goal.returns-else-place-far
returns-else-place-far c p at =
    let same : c.known_place-place.result ≡ p = let e : Some c.known_place-place.result ≡ Some p = sym c.known_place-place.ensures ∙ at in cc in
    let new : Place = record { depth = c.known_place-place.result.depth + 1; jump = c.args.next; landing = c.known_place-place.result.depth; head = c.args.head } in
    subst (λ q. IsBefore c.args.chains.now c.args.head c.args.next q new) same (single c.args.chains.now c.args.head c.args.next c.known_place-place.result)
