use Rattle.std.proofs.Common.{◌≡◌, ◌+◌, ◌*◌, ◌++◌, length, take}
use Rattle.std.specs.List.{flat_map}
use Rattle.roots.proofs.writer.SectorWriter.put_all.Given as goal

abbrev pub invariant-loop-value : goal.invariant-loop-value
invariant-loop-value g l = record {
  fields : l.self ≡ l.initial.self ++ flat_map g.T.Field.spell (take l.value-index l.values);
  len : length l.self ≡ length l.initial.self + g.T.Field.BYTES * l.value-index;
}
