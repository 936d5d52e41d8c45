use Rattle.std.proofs.Common.{◌≡◌, ◌≤◌, length, vec_capacity, vec_len}
use Rattle.snapshots.specs.inside.HoldsAll.{HoldsFirst}
use Rattle.store.specs.Holds.{AreHolds}
use Rattle.snapshots.proofs.hold_all.hold_all.Given as goal

abbrev pub invariant-loop-position : goal.invariant-loop-position
invariant-loop-position g l = record {
  sound : AreHolds l.fn.store;
  count : vec_len l.handles ≡ l.position;
  room : length l.fn.store.entries ≤ vec_capacity l.handles;
  held : HoldsFirst g.D.Disk.facts l.fn.store l.store l.position l.handles.items;
}
