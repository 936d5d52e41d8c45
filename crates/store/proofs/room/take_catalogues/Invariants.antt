use Rattle.std.proofs.Common.{◌≡◌, ◌+◌, length}
use Rattle.extents.specs.Layout.{unused_count}
use Rattle.store.specs.Taken.{AreTaken}
use Rattle.store.specs.inside.Claimed.{IsClaimedBeside}
use Rattle.store.proofs.Taking.{with_singles}
use Rattle.store.proofs.room.take_catalogues.Given as goal

abbrev pub invariant-loop-place : goal.invariant-loop-place
invariant-loop-place l = record {
  taken : AreTaken l.initial.layout l.taken;
  now : l.layout ≡ with_singles l.taken l.initial.layout;
  claimed : IsClaimedBeside l.initial.layout l.layout l.taken;
  count : length l.taken ≡ l._place;
  free : unused_count l.layout + length l.taken ≡ unused_count l.initial.layout;
}
