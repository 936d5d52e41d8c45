-- The sectors that a change takes, compared with the sectors in use.
use Rattle.std.proofs.Common.{◌≡◌, ⊎_elim, inl, inr, ℕ, ◌<◌, Bool, true, List, [], ◌∷◌, ◌++◌, length, All, sym, subst, ◌∙◌, arith}
use Rattle.std.proofs.lemmas.List.FromFn.{length-map-range_with_len}
use Rattle.extents.specs.declared.extent.Extent.{Extent}
use Rattle.extents.specs.Extent.{one_sector, places}
use Rattle.extents.specs.Layout.{IsUnused, IsInside, IsLowestUnused, with_flag, with_flags}
use Rattle.extents.specs.Used.{layout_of, ClaimsJust, ClaimsSame}
use Rattle.extents.proofs.LayoutLemmas.{claimed-claim, unused-inside, length-with_flag, length-with_flags}
use Rattle.extents.proofs.UsedLemmas.{claims-take, layout_of-claims, same-from_used, taken-same, unused-same}
use Rattle.passes.specs.Bytes.{IsOnDisk}
use Rattle.roots.specs.declared.root.Root.{Root}
use Rattle.roots.specs.Entry.{IsDataExtent}
use Rattle.store.specs.declared.placed_entry.PlacedEntry.{PlacedEntry}
use Rattle.store.specs.Taken.{AreTaken, IsTaken}
use Rattle.store.specs.declared.holds.HeldRow.{HeldRow}
use Rattle.store.specs.Holds.{in_use}
use Rattle.store.specs.inside.Kept.{IsKept}
use Rattle.store.proofs.Anew.{all_usable}

back : {a b : List Bool} → ClaimsSame a b → ClaimsSame b a
back same = record { size = sym same.size; each = λ s. ((same.each s).1, (same.each s).0) }

-- Layouts with the same claimed sectors have the same lowest unused sector.
lowest_same : (a b : List Bool) (at : ℕ) → ClaimsSame a b → IsLowestUnused a at → IsLowestUnused b at
lowest_same a b at same lowest = (unused-same a b at same lowest.0, λ lower lt free. lowest.1 lower lt (unused-same b a lower (back same) free))

-- Two layouts with the same claimed sectors still have the same ones once a sector is claimed in both.
same_more : (a b : List Bool) (at : ℕ) → ClaimsSame a b → IsUnused a at → ClaimsSame (with_flag true (one_sector at) a) (with_flag true (one_sector at) b)
same_more a b at same free =
    let lt : at < length a = (unused-inside a at free).1 in
    let in_a : IsInside a (one_sector at) = (omega arith, free.0, omega (arith, lt)) in
    let in_b : IsInside b (one_sector at) = (omega arith, free.0, omega (arith, lt, same.size)) in
    record {
      size = length-with_flag true (one_sector at) a in_a ∙ same.size ∙ sym (length-with_flag true (one_sector at) b in_b);
      each = λ s.
          let of_a = claimed-claim (one_sector at) a s in_a in
          let of_b = claimed-claim (one_sector at) b s in_b in (
            λ claimed. of_b.1 (⊎_elim inl (λ was. inr ((same.each s).0 was)) (of_a.0 claimed)),
            λ claimed. of_a.1 (⊎_elim inl (λ was. inr ((same.each s).1 was)) (of_b.0 claimed)),
          );
    }

-- The same single sectors are taken from layouts with the same claimed sectors.
pub singles_same : (ks : List ℕ) (a b : List Bool) → ClaimsSame a b → AreTaken a ks → AreTaken b ks
singles_same [] a b same taken = tt
singles_same (k ∷ ks) a b same taken = (
  lowest_same a b k same taken.0,
  singles_same ks (with_flag true (one_sector k) a) (with_flag true (one_sector k) b) (same_more a b k same taken.0.0) taken.1,
)

-- Two layouts of one size, in which the same sectors are claimed.
module _ (layout in_layout : List Bool) (used : List ℕ) (size : length layout ≡ length in_layout) (kept : ClaimsJust layout used) (claims : ClaimsJust in_layout used) where
  pub same_claims : ClaimsSame layout in_layout
  same_claims = same-from_used layout in_layout used size kept claims

  -- both layouts have the same claimed sectors once these extents are taken
  same_taken : (extents : List Extent) → All (IsInside layout) extents → ClaimsSame (with_flags true extents layout) (with_flags true extents in_layout)
  same_taken extents inside =
      let there : All (IsInside in_layout) extents = λ k d lt. let i = inside k d lt in (i.0, i.1, omega (arith, i.2, size)) in
      same-from_used (with_flags true extents layout) (with_flags true extents in_layout) (places extents ++ used)
      (length-with_flags true extents layout inside ∙ size ∙ sym (length-with_flags true extents in_layout there))
      (claims-take layout used extents inside kept)
      (claims-take in_layout used extents there claims)

  -- What is taken from one layout is taken from the other.
  pub taken_also : (need : ℕ) (extents : List Extent) (at : ℕ) (catalogues : List ℕ) → All (IsInside layout) extents
      → IsTaken layout need extents at catalogues → IsTaken in_layout need extents at catalogues
  taken_also need extents at catalogues inside taken =
      let then = same_taken extents inside in
      record {
        bytes = taken.bytes ∙ taken-same need layout in_layout same_claims;
        entry = lowest_same (with_flags true extents layout) (with_flags true extents in_layout) at then taken.entry;
        listed = singles_same catalogues (with_flag true (one_sector at) (with_flags true extents layout)) (with_flag true (one_sector at) (with_flags true extents in_layout))
            (same_more (with_flags true extents layout) (with_flags true extents in_layout) at then taken.entry.0) taken.listed;
      }

-- extents of data on the disk lie inside the layout
pub data_inside : (layout : List Bool) (extents : List Extent) → All IsDataExtent extents → All (IsOnDisk (length layout)) extents → All (IsInside layout) extents
data_inside layout extents filled on_disk k d lt = let extent = filled k d lt in (omega (arith, extent.filled), extent.low, on_disk k d lt)

module _ (root : Root) (entries : List PlacedEntry) (held : List HeldRow) (layout : List Bool) (kept : IsKept root entries held layout) where
  abbrev sectors_in_use : List ℕ
  sectors_in_use = in_use root entries held

  abbrev pub in_layout : List Bool
  in_layout = layout_of root.sectors sectors_in_use

  size : length layout ≡ length in_layout
  size = kept.size ∙ sym (length-map-range_with_len _ 0 root.sectors)

  claims : ClaimsJust in_layout sectors_in_use
  claims = layout_of-claims root.sectors sectors_in_use (λ k d lt. (all_usable kept k d lt).1)

  -- What is taken from the kept layout is taken from the sectors that aren't in use.
  pub singles_in_use : (ks : List ℕ) → AreTaken layout ks → AreTaken in_layout ks
  singles_in_use ks taken = singles_same ks layout in_layout (same_claims layout in_layout sectors_in_use size kept.claimed.claims claims) taken

  pub taken_in_use : (need : ℕ) (extents : List Extent) (at : ℕ) (catalogues : List ℕ) → All (IsInside layout) extents
      → IsTaken layout need extents at catalogues → IsTaken in_layout need extents at catalogues
  taken_in_use need extents at catalogues inside taken = taken_also layout in_layout sectors_in_use size kept.claimed.claims claims need extents at catalogues inside taken

  -- What is taken from the kept layout is taken from the sectors that aren't in use, also if the need and the taken
  -- sectors are given by equations.
  pub taken_so : {need n at here : ℕ} {extents its : List Extent} {catalogues listed : List ℕ} → need ≡ n → its ≡ extents → here ≡ at
      → listed ≡ catalogues → All IsDataExtent extents → All (IsOnDisk (length layout)) extents
      → IsTaken layout need extents at catalogues → IsTaken in_layout n its here listed
  taken_so {need = need} {n = n} {at = at} {here = here} {extents = extents} {its = its} {catalogues = catalogues} {listed = listed} so_many are there these filled on_disk taken =
      let inside = data_inside layout extents filled on_disk in
      subst (λ l. IsTaken in_layout n its here l) (sym these)
      (subst (λ k. IsTaken in_layout n its k catalogues) (sym there)
      (subst (λ k. IsTaken in_layout k its at catalogues) so_many
      (subst (λ l. IsTaken in_layout need l at catalogues) (sym are) (taken_in_use need extents at catalogues inside taken))))
