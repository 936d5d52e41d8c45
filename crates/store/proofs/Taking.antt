-- Single sectors that are taken one after the other.
use Rattle.std.proofs.Common.{◌≡◌, ℕ, Bool, true, List, [], ◌∷◌, ◌++◌, refl}
use Rattle.extents.specs.Extent.{one_sector}
use Rattle.extents.specs.Layout.{IsLowestUnused, with_flag}
use Rattle.store.specs.Taken.{AreTaken}

-- the layout with these sectors claimed
abbrev pub with_singles : List ℕ → List Bool → List Bool
with_singles [] layout = layout
with_singles (k ∷ ks) layout = with_singles ks (with_flag true (one_sector k) layout)

-- one more sector is claimed after the others
pub singles_more : (ks : List ℕ) (at : ℕ) (layout : List Bool) → with_singles (ks ++ at ∷ []) layout ≡ with_flag true (one_sector at) (with_singles ks layout)
singles_more [] at layout = refl
singles_more (k ∷ ks) at layout = singles_more ks at (with_flag true (one_sector k) layout)

-- if the next sector is the lowest unused one, it is taken with the others
pub taken_more : (ks : List ℕ) (at : ℕ) (layout : List Bool) → AreTaken layout ks → IsLowestUnused (with_singles ks layout) at → AreTaken layout (ks ++ at ∷ [])
taken_more [] at layout taken lowest = (lowest, tt)
taken_more (k ∷ ks) at layout taken lowest = (taken.0, taken_more ks at (with_flag true (one_sector k) layout) taken.1 lowest)
