-- What a store keeps if nobody holds anything.
use Rattle.std.proofs.Common.{◌≡◌, Bool, ℕ, ◌≤◌, List, [], sym, ap, subst, ◌∙◌, arith}
use Rattle.std.proofs.lemmas.List.{append-nil}
use Rattle.extents.specs.Extent.{AreDistinct}
use Rattle.extents.specs.Used.{ClaimsJust}
use Rattle.roots.specs.declared.root.Root.{Root}
use Rattle.roots.specs.declared.entry_list.EntryList.{EntryList}
use Rattle.roots.specs.declared.entry_list.EntryList.TheVariants.{InRoot, InCatalogues}
use Rattle.store.specs.declared.placed_entry.PlacedEntry.{PlacedEntry}
use Rattle.store.specs.declared.holds.HeldRow.{HeldRow}
use Rattle.store.specs.Holds.{in_use}
use Rattle.store.specs.Stands.{HasRoom, used}
use Rattle.store.specs.inside.HeldRows.{AreHeldRows}
use Rattle.store.specs.inside.Kept.{AreClaimed}

pub none_beside : {sectors : ℕ} {layout : List Bool} (used : List ℕ) → AreDistinct used → ClaimsJust layout used → AreClaimed sectors layout used []
none_beside {layout = layout} used once claims = record {
  inside = λ k d lt. absurd (omega (arith, lt));
  once = subst AreDistinct (sym (append-nil used)) once;
  claims = subst (ClaimsJust layout) (sym (append-nil used)) claims;
}

-- if nothing is held, exactly the sectors that the state uses are in use
pub in_use_alone : (root : Root) (entries : List PlacedEntry) (held : List HeldRow) → held ≡ [] → in_use root entries held ≡ used root entries
in_use_alone root entries held unheld = ap (in_use root entries) unheld ∙ append-nil (used root entries)

-- entries that have room on a disk have room on a larger disk
pub room_more : (few many : ℕ) (list : EntryList) (entries : List PlacedEntry) → few ≤ many → HasRoom few list entries → HasRoom many list entries
room_more few many (InRoot listed) entries more room = tt
room_more few many (InCatalogues count listed) entries more room = omega (arith, more, room)

pub no_rows : (entries : List PlacedEntry) → AreHeldRows entries []
no_rows entries = record {
  each = λ k d lt. absurd (omega (arith, lt));
  own = λ i j d lt fits. absurd (omega (arith, fits));
}
