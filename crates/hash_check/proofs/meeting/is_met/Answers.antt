use Rattle.std.proofs.Common.{◌≡◌, ◌≢◌, ◌-◌, arith, sym, ◌∙◌, Some, None}
use Rattle.std.proofs.lemmas.Bool.{eqb-true, eq-eqb}
use Rattle.hash_check.specs.Walk.{walk}
use Rattle.hash_check.specs.inside.Places.{Depth, place_at}
use Rattle.hash_check.proofs.StepsLeft.{meets-from-depth, depth-from-meets, known-from-meets}
use Rattle.hash_check.proofs.meeting.is_met.Goals as goal

pub returns-else-place-from : goal.returns-else-place-from
returns-else-place-from c =
    let chains = c.args.chains.now in
    let top : Depth chains c.args.from c.requires.known.place.depth = (c.requires.sound.says c.args.from c.requires.known.place c.requires.known.is).depth in
    let low : Depth chains c.args.index c.in-Some.place.depth = (c.requires.sound.says c.args.index c.in-Some.place (sym c.in-Some.ensures)).depth in
    let at : c.at_depth.result ≡ walk chains c.args.from (c.requires.known.place.depth - c.in-Some.place.depth) = c.at_depth.ensures c.requires.known.place.depth top in
    let some : c.args.index ≢ 0 = omega (arith, c.requires.nonzero) in (
      λ t. meets-from-depth chains c.args.from c.args.index c.requires.known.place.depth c.in-Some.place.depth top low some (sym at ∙ eqb-true c.at_depth.result c.args.index t),
      λ m. eq-eqb c.at_depth.result c.args.index (at ∙ depth-from-meets chains c.args.from c.args.index c.requires.known.place.depth c.in-Some.place.depth top low m),
    )

pub returns-in-None : goal.returns-in-None
returns-in-None c = (
  λ t. let f = t in absurd (cc),
  λ m. let known = known-from-meets c.args.chains.now c.args.places.now c.args.from c.args.index c.requires.sound c.requires.known m in
      let none : place_at c.args.places.now c.args.index ≡ None = sym c.in-None.ensures in
      let some : place_at c.args.places.now c.args.index ≡ Some known.place = known.is in
      absurd (cc),
)
