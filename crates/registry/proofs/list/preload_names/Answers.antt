use Rattle.std.proofs.Common.{sym, ap, ◌∙◌, arith}
use Rattle.std.proofs.lemmas.List.{take_all}
use Rattle.store.specs.Stands.{names_at}
use Rattle.registry.proofs.Names.{told_more}
use Rattle.registry.proofs.list.preload_names.Goals as goal

pub loop-position-preserved : goal.loop-position-preserved
loop-position-preserved g c = record {
  items = λ s at.
      c.push_reserved.ensures.items
      ∙ told_more s c.loop-position.position-index c.preloads-positions.result.now c.loop-position.names.items c.in_ok-copy_of.field-0 c.loop-position-test.true
      (c.loop-position.invariant.items s at) (c.in_ok-copy_of.ensures ∙ c.name.ensures.state s at);
  len = omega (arith, c.push_reserved.ensures.len, c.loop-position.invariant.len);
  room = omega (arith, c.push_reserved.ensures.capacity, c.loop-position.invariant.room);
}

pub returns : goal.returns
returns g c s at =
    c.loop-position.invariant.items s at
    ∙ ap (names_at s.libraries) (take_all c.loop-position.position-index c.preloads-positions.result.now (omega (arith, c.loop-position-test.false)))
    ∙ sym (c.preloads-positions.ensures.state s at)
