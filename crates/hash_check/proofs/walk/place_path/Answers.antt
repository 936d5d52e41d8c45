use Rattle.std.proofs.Common.{sym, ◌≡◌, ◌<◌, ◌∷◌, ◌++◌, [], ℕ, List, length, arith, ap, subst, ◌∙◌, Some, set}
use Rattle.std.proofs.lemmas.List.{length-set}
use Rattle.hash_check.specs.Walk.{walk}
use Rattle.hash_check.specs.inside.Places.{IsPath, Known, IsBefore, place_at}
use Rattle.hash_check.specs.declared.place.Place.{Place}
use Rattle.hash_check.proofs.Walks.{walk-zero}
use Rattle.hash_check.proofs.Knowing.{known-set, known-new, sound-set}
use Rattle.hash_check.proofs.Paths.{path-last, path-last-some, path-meets, path-front, popped-index, popped-known}
use Rattle.hash_check.proofs.walk.place_path.Goals as goal

pub next-requires : goal.next-requires
next-requires c =
    popped-index c.args.chains.now c.args.from c.loop-i.path.items c.pop.new.self.items c.in-Some.i c.requires.words
    c.requires.within c.loop-i.invariant.path c.in-Some.ensures.items

pub bounds-places-i : goal.bounds-places-i
bounds-places-i c =
    let lt : c.in-Some.i < length c.args.chains.now =
    popped-index c.args.chains.now c.args.from c.loop-i.path.items c.pop.new.self.items c.in-Some.i c.requires.words
    c.requires.within c.loop-i.invariant.path c.in-Some.ensures.items in
    omega (arith, c.loop-i.invariant.size, lt)

pub place_before-requires-clause-known : goal.place_before-requires-clause-known
place_before-requires-clause-known c =
    subst (Known c.loop-i.places) (sym c.next.ensures)
    (popped-known c.args.chains.now c.loop-i.places
    c.args.from c.loop-i.path.items c.pop.new.self.items c.in-Some.i c.loop-i.invariant.path c.loop-i.invariant.known
    c.in-Some.ensures.items)

pub loop-i-preserved : goal.loop-i-preserved
loop-i-preserved c =
    let chains : List ℕ = c.args.chains.now in
    let from : ℕ = c.args.from in
    let front : List ℕ = c.pop.new.self.items in
    let i : ℕ = c.in-Some.i in
    let new : Place = c.place_before.result in
    let path : IsPath chains from (front ++ i ∷ []) = subst (IsPath chains from) c.in-Some.ensures.items c.loop-i.invariant.path in
    let lt : i < length chains = popped-index chains from c.loop-i.path.items front i c.requires.words c.requires.within c.loop-i.invariant.path c.in-Some.ensures.items in
    let room : i < length c.loop-i.places = omega (arith, c.loop-i.invariant.size, lt) in
    record {
      size = length-set c.loop-i.places i (Some new) ∙ c.loop-i.invariant.size;
      path = path-front chains from front i path;
      known = subst (Known (set c.loop-i.places i (Some new))) (path-last chains from front i path) (known-new c.loop-i.places i new room);
      sound = sound-set chains c.loop-i.places from i new c.loop-i.invariant.sound (path-last-some chains from front i path) room
          (popped-known chains c.loop-i.places from c.loop-i.path.items front i c.loop-i.invariant.path c.loop-i.invariant.known
          c.in-Some.ensures.items) (subst (λ j. (p : Place) → place_at c.loop-i.places j ≡ Some p → IsBefore chains from j p new) c.next.ensures
          c.place_before.ensures) (path-meets chains from front i path);
      keeps = record { known = λ k h. known-set c.loop-i.places i new k (c.loop-i.invariant.keeps.known k h) };
    }

pub returns-clause-known : goal.returns-clause-known
returns-clause-known c =
    let none : length c.loop-i.path.items ≡ 0 = omega (arith, c.in_default.ensures.cases.0, c.loop-i.path.ok.0) in
    subst (Known c.loop-i.places) (ap (walk c.args.chains.now c.args.from) none ∙ walk-zero c.args.chains.now c.args.from) c.loop-i.invariant.known
