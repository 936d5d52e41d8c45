-- The contents that a list of writes leaves, and the contents that a stop may leave after it.
use Rattle.std.specs.Prelude.{◌==◌, ℕ, List, [], ◌∷◌, set, take, drop, map, filter}
use Rattle.sector_disk.specs.declared.written.Written.{Written}
use Rattle.sector_disk.specs.Disk.{Sector, sector}

-- the contents after these writes, which are made in the order of the list
abbrev pub contents : List Sector → List Written → List Sector
contents start [] = start
contents start (write ∷ writes) = contents (set start write.at write.content) writes

-- the contents that were written to sector k, the oldest first
abbrev pub written_to : ℕ → List Written → List Sector
written_to k writes = map (λ write. write.content) (filter (λ write. write.at == k) writes)

-- the choices of a stop for sector k: the content after the first `synced` writes, and then each
-- content that was written later
abbrev pub choices : List Sector → List Written → ℕ → ℕ → List Sector
choices start writes synced k = sector (contents start (take synced writes)) k ∷ written_to k (drop synced writes)
