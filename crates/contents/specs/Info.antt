-- The numbers of a disk and of the state that it holds (own).
use Rattle.std.specs.Prelude.{◌≡◌, ◌+◌, ℕ, length}
use Rattle.roots.specs.declared.version.Version.TheVariants.{Two}
use Rattle.states.specs.Cost.{catalogues_for, free}
use Rattle.states.specs.State.{State}
use Rattle.contents.specs.declared.info.Info.{Info}

-- `info` has the numbers of a disk of `sectors` sectors that holds the state `s`.
pub record IsInfo (sectors : ℕ) (s : State) (info : Info) : Type 0 where
  pub version : info.version ≡ Two
  pub sectors_are : info.sectors ≡ sectors
  pub generation : info.generation ≡ s.generation
  pub libraries : info.libraries ≡ length s.libraries
  pub preloads : info.preloads ≡ length s.preloads
  -- `free` is the number of sectors that the state leaves free; `sectors` is larger by the number
  -- of those for the catalogues of the next change
  pub free_are : info.unused.free ≡ free sectors s
  pub unused_are : info.unused.sectors ≡ free sectors s + catalogues_for (length s.libraries)
