-- The lists of extents that a file could get in a layout.
use Rattle.std.specs.Prelude.{◌≤◌, Bool, List, length, All, AllPairs}
use Rattle.extents.specs.declared.extent.Extent.{Extent}
use Rattle.extents.specs.Extent.{IsApart}
use Rattle.extents.specs.Layout.{AllUnused, IsInside}
use Rattle.extents.specs.Limits.{most_extents}

-- There are at most as many extents as a file may have. They lie on the disk after the roots and are
-- unused, and no two of them share a sector. Their order is arbitrary.
pub record AreCandidates (flags : List Bool) (extents : List Extent) : Type 0 where
  pub few : length extents ≤ most_extents
  pub inside : All (IsInside flags) extents
  pub unused : All (AllUnused flags) extents
  pub apart : AllPairs IsApart extents
