-- The parts of sectors: numbers, zeros, and lists in a fixed number of places.
use Rattle.std.specs.Prelude.{◌≡◌, ℕ, ◌<◌, ◌≤◌, List, length, take, drop, replicate, All}
use Rattle.std.specs.List.{flat_map}
use Rattle.std.specs.Int.{Width, to_le_bytes}
use Rattle.extents.specs.Limits.{root_sectors}
use Rattle.extents.specs.Extent.{AreDistinct}

-- a list of n zero bytes
abbrev pub zeros : ℕ → List ℕ
zeros n = replicate n 0

-- numbers of one width, each little endian, one after the other
abbrev pub numbers : Width → List ℕ → List ℕ
numbers w ns = flat_map (to_le_bytes w) ns

-- The first `count` of `places` places are used, and the value in each of them meets `Fits`. The
-- other places hold `unused`.
pub record UsesFirst {A : Type 0} (places count : ℕ) (Fits : A → Type 0) (unused : A) (values : List A) : Type 0 where
  pub size : length values ≡ places
  pub room : count ≤ places
  pub used : All Fits (take count values)
  pub rest : All (λ value. value ≡ unused) (drop count values)

-- A list of `count` sectors in `places` places. The sectors lie after the root sectors and before
-- `end`, and no sector occurs twice.
pub record ListsSectors (places count end : ℕ) (sectors : List ℕ) : Type 0 where
  pub listed : UsesFirst places count (λ sector. (root_sectors ≤ sector) × (sector < end)) 0 sectors
  pub distinct : AreDistinct (take count sectors)
