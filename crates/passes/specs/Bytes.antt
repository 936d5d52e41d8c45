-- The bytes of sectors, and the bytes that are written to sectors.
use Rattle.std.specs.Prelude.{ℕ, ◌+◌, ◌≤◌, List, ◌++◌, take, replicate}
use Rattle.std.specs.List.{flat_map}
use Rattle.extents.specs.declared.extent.Extent.{Extent}
use Rattle.sector_disk.specs.Disk.{Sector, sector}

-- the bytes of these sectors, one sector after the other
abbrev pub bytes_at : List Sector → List ℕ → List ℕ
bytes_at m ks = flat_map (sector m) ks

-- n bytes: the first n of `bytes`, or all of `bytes` and then zeros if there are fewer
abbrev pub padded : ℕ → List ℕ → List ℕ
padded n bytes = take n (bytes ++ replicate n 0)

-- all sectors of the extent lie on a disk of `sectors` sectors
abbrev pub IsOnDisk : ℕ → Extent → Type 0
IsOnDisk sectors extent = extent.start + extent.count ≤ sectors
