use Rattle.std.proofs.Common.{◌≡◌, drop}
use Rattle.executable.specs.WritableCode.{owner_among}
use Rattle.executable.proofs.writable_code.owner.Given as goal

abbrev pub invariant-loop-object : goal.invariant-loop-object
invariant-loop-object l =
    owner_among l.piece (drop l.object-index l.fn.image.objects) l.segments ≡ owner_among l.piece l.fn.image.objects l.fn.image.segments
