-- A disk whose number of sectors no store can have is refused with BadGeometry.
use Rattle.std.proofs.Common.{ℕ, Bool, true, false, if◌then◌else◌, List, length, inl, inr, sym, subst, arith}
use Rattle.std.specs.Int.{IsInRange}
use Rattle.std.proofs.lemmas.Bool.Decides.{nat_tests}
use Rattle.extents.specs.Limits.{most_sectors}
use Rattle.sector_disk.specs.Disk.{Sector, sector}
use Rattle.roots.specs.declared.root.Root.{Root}
use Rattle.roots.specs.declared.version.Version.{Version}
use Rattle.roots.specs.Choice.{IsCurrent}
use Rattle.roots.specs.Root.{RootHasSpelling}
use Rattle.states.specs.Geometry.{IsGeometry}
use Rattle.states.specs.Limits.{least_sectors}
use Rattle.states.specs.State.{State}
use Rattle.store.specs.Opening.{RefusesLook, RefusesOpen}
use Rattle.store.specs.Stands.{StandsAs}
use Rattle.store.specs.declared.refusal.StoreRefusal.TheVariants.{BadGeometry}

geometry_of : (n : ℕ) → IsInRange least_sectors most_sectors n → IsGeometry n
geometry_of n range = grind (arith, nat_tests)

either_fits : (first : Bool) (x y : Root) → RootHasSpelling x → RootHasSpelling y → RootHasSpelling (if first then x else y)
either_fits true x y x_fits y_fits = x_fits
either_fits false x y x_fits y_fits = y_fits

current_fits : (zero one : Sector) (root : Root) → IsCurrent zero one root → RootHasSpelling root
current_fits zero one root (inl alone) = alone.0.has_spelling
current_fits zero one root (inr (even, odd, spells0, spells1, successive, keeps, is)) =
    subst RootHasSpelling (sym is) (either_fits _ _ _ spells1.has_spelling spells0.has_spelling)

-- if no store can have this number of sectors, the sectors hold no state
pub no_geometry : (m : List Sector) → (IsGeometry (length m) → ⊥) → (version : Version) (s : State) → StandsAs version m s → ⊥
no_geometry m none version s (root, entries, by) =
    none (subst IsGeometry by.intact.size (geometry_of root.sectors (current_fits (sector m 0) (sector m 1) root by.intact.current).sectors))

-- If no store can have this number of sectors, they may be refused with BadGeometry.
module _ (StandsFor : List Sector → State → Type 0) (m : List Sector) (none : IsGeometry (length m) → ⊥) where
  pub geometry_refused : RefusesLook StandsFor m BadGeometry
  geometry_refused = record { may = none; unformatted = λ is. cc; formatted = λ is. cc; damaged = λ is. cc; memory = λ is. cc }

  pub geometry_refused_open : RefusesOpen StandsFor m BadGeometry
  geometry_refused_open = record { why = inl geometry_refused; only_old = λ fits. absurd (none fits) }
