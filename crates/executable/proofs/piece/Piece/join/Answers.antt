use Rattle.std.specs.Prelude.{◌≡◌, ◌++◌, ◌-◌, ◌+◌, length, replicate}
use Rattle.std.specs.Int.RustNames.{bit_or}
use Rattle.std.proofs.Common.{ap, arith}
use Rattle.std.proofs.lemmas.Grind.{common_steps}
use Rattle.executable.proofs.piece.Piece.join.Goals as goal

-- the new contents follow from lemmas about lists, everything else from the assignments
pub returns : goal.returns
returns c =
    let own = c.self.inside in
    let other = c.other.inside in
    let contents : c.extend_from_slice.new.self.items ≡ own.contents.items ++ replicate (other.address - own.address - length own.contents.items) 0 ++ other.contents.items
    = grind (arith, common_steps) in
    rw (← c.self.view_is, ← c.other.view_is)
    (ap (λ bytes. record {
      heading = record { address = own.address; permissions = bit_or own.flags other.flags; size = other.address - own.address + other.size };
      contents = bytes;
    }) contents)
