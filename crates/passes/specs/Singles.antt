-- Sectors that are written one by one, each with its own content.
use Rattle.std.specs.Prelude.{◌≡◌, ℕ, List, map, All}
use Rattle.sector_disk.specs.Disk.{Sector, sector}
use Rattle.passes.specs.declared.single.SingleSector.{SingleSector}

-- the numbers of these sectors, in their order
abbrev pub single_places : List SingleSector → List ℕ
single_places singles = map (λ single. single.at) singles

-- each single sector holds its content
abbrev pub HoldsSingles : List Sector → List SingleSector → Type 0
HoldsSingles m singles = All (λ single. sector m single.at ≡ single.content) singles
