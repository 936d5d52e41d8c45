-- The sizes of disks, as a range.
use Rattle.std.proofs.Common.{◌≤◌, ℕ, IsTrue, arith}
use Rattle.std.specs.Prelude.{◌&&◌, nat_le}
use Rattle.std.specs.Int.{IsInRange}
use Rattle.std.proofs.lemmas.Bool.Decides.{nat_tests}
use Rattle.extents.specs.Limits.{most_sectors}
use Rattle.states.specs.Limits.{least_sectors}
use Rattle.states.specs.Geometry.{IsGeometry}

pub in_range : (sectors : ℕ) → IsGeometry sectors → IsInRange least_sectors most_sectors sectors
in_range sectors geometry = (least sectors geometry, most sectors geometry)
  where
    least : (n : ℕ) → IsTrue (nat_le least_sectors n && nat_le n most_sectors) → least_sectors ≤ n
    least n h = grind (arith, nat_tests)

    most : (n : ℕ) → IsTrue (nat_le least_sectors n && nat_le n most_sectors) → n ≤ most_sectors
    most n h = grind (arith, nat_tests)
