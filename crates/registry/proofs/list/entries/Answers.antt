use Rattle.std.proofs.Common.{◌<◌, length, ◌∙◌, arith}
use Rattle.registry.proofs.Names.{listed_more, listed_all}
use Rattle.registry.proofs.list.entries.Goals as goal

pub loop-position-preserved : goal.loop-position-preserved
loop-position-preserved g c = record {
  items = λ s at.
      let lt : c.loop-position.position < length s.libraries = omega (arith, c.loop-position-test.true, c.count-position-end.ensures.state s at) in
      c.push_reserved.ensures.items
      ∙ listed_more s c.loop-position.position c.loop-position.entries.items c.in_ok-name.name c.length.result lt (c.loop-position.invariant.items s at)
      (c.in_ok-name.ensures ∙ c.name.ensures.state s at) (c.length.ensures.state s at);
  len = omega (arith, c.push_reserved.ensures.len, c.loop-position.invariant.len);
  room = omega (arith, c.push_reserved.ensures.capacity, c.loop-position.invariant.room);
}

pub returns : goal.returns
returns g c s at =
    c.loop-position.invariant.items s at ∙ listed_all s c.loop-position.position (omega (arith, c.loop-position-test.false, c.count-position-end.ensures.state s at))
