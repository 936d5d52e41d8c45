use Rattle.std.proofs.Common.{◌≡◌, take, drop}
use Rattle.std.specs.List.{All, find}
use Rattle.image.specs.Bound.{IsReady}
use Rattle.image.specs.Relocating.{is_undefined, first_undefined, relocations_of}
use Rattle.image.specs.inside.Bound.{AreValues}
use Rattle.image.proofs.bound.symbol_values.Given as goal

abbrev pub invariant-loop-i : goal.invariant-loop-i
invariant-loop-i l = record {
  kept : AreValues l.objects l.own l.found.values.items l.found.known.items;
  ready : All (IsReady l.objects l.own l.found.values.items) (take l.i (relocations_of l.objects l.own));
  first : find (is_undefined l.objects l.own) (drop l.i (relocations_of l.objects l.own)) ≡ first_undefined l.objects l.own;
}
