use Rattle.std.proofs.Common.{◌≢◌, ◌<◌, ◌+◌, ◌*◌, [], length, drop, ap, ◌∙◌, arith, below_more, get_or-set_other, get_or-set_same, length-set}
use Rattle.std.proofs.lemmas.List.FromFn.{fill_by_all}
use Rattle.roots.specs.inside.Reading.{values_at}
use Rattle.roots.proofs.field.values_at.Goals as goal

pub loop-i-preserved : goal.loop-i-preserved
loop-i-preserved g c =
    let inside : c.loop-i.i < length c.loop-i.values = omega (arith, c.loop-i.invariant.size) in
    record {
      size = rw length-set c.loop-i.invariant.size;
      read = below_more _ _
          (λ k h. let apart : k ≢ c.loop-i.i = omega arith in rw get_or-set_other (c.loop-i.invariant.read k h))
          (rw get_or-set_same (c.read_at.ensures ∙ ap (λ n. g.T.Field.read (drop (c.args.at + n * c.loop-i.i) c.args.sector.now)) c.BYTES.ensures));
    }

pub returns : goal.returns
unfolding values_at
returns g c = fill_by_all _ c.loop-i.values g.row.N (g.T.Field.read []) c.loop-i.invariant.size (λ k h. c.loop-i.invariant.read k (omega arith))
