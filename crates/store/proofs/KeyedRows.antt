-- The rows of the table of held byte strings, as the map keeps them under the sectors of their entries.
use Rattle.std.proofs.Common.{◌≡◌, ◌≢◌, ⊎_elim, ℕ, suc, ◌<◌, ◌≤◌, Bool, false, is_some, unwrap_or, IsSome, Option, None, Some, List, [], ◌∷◌, length}
use Rattle.std.proofs.Common.{get_or, set, map, refl, sym, ap, subst, ◌∙◌, arith}
use Rattle.std.specs.List.{insert, remove}
use Rattle.std.specs.Map.{keys_of, values_of, lookup, remove_entry, set_value}
use Rattle.std.specs.BTreeMap.{insert_entry, is_at}
use Rattle.std.specs.Cmp.{eq_by_cmp_equiv, nat_cmp_total}
use Rattle.std.specs.Ordering.{is_eq, match_ordering, nat_cmp}
use Rattle.std.specs.declared.cmp.Ordering.{Ordering}
use Rattle.std.specs.declared.cmp.Ordering.TheVariants.{Less, Equal, Greater}
use Rattle.std.proofs.Math.Seq.{map-set_same}
use Rattle.std.proofs.lemmas.Bool.{cases_Bool, cond-true, cond-false, false≢true}
use Rattle.std.proofs.lemmas.List.{get_or-map, length-map, map-set}
use Rattle.std.proofs.lemmas.Map.{keys-set_value, none_passes_from_lookup, NonePasses}
use Rattle.std.proofs.lemmas.Map.Lookups.{exact_unsigned}
use Rattle.std.proofs.lemmas.Map.Views.{All-keys_from_lookup, tells_apart}
use Rattle.store.specs.declared.holds.HeldRow.{HeldRow}
use Rattle.store.specs.inside.HeldRows.{IsUnheld, IsAtPlace}
use Rattle.store.proofs.Inserted.{map_insert}
use Rattle.store.proofs.Removed.{drop_none, map_remove}
use Rattle.store.proofs.UsedAlone.{no_entry}

-- a row for positions where there is none
abbrev pub no_row : HeldRow
no_row = record { placed = no_entry; holders = 0; listed = false }

-- the sectors of the rows' entries
abbrev pub row_sectors : List HeldRow → List ℕ
row_sectors rows = map (λ h. h.placed.at) rows

-- whether a key is the sector that is looked for
abbrev pub is_sector : ℕ → ℕ → Bool
is_sector sector key = is_at (nat_cmp sector) key

-- The row that a look-up finds: its place, and the map's entries after the map's calls change this row.
pub record IsFound (es : List (ℕ × HeldRow)) (sector : ℕ) (row : HeldRow) : Type 0 where
  pub place : ℕ
  pub key : ℕ
  pub inside : place < length es
  pub is : (d : ℕ × HeldRow) → get_or es place d ≡ (key, row)
  pub written : (other : HeldRow) → set_value (is_sector sector) es other ≡ set es place (key, other)
  pub removed : remove_entry (is_sector sector) es ≡ remove es place
  pub its : key ≡ sector

pub found_in : (es : List (ℕ × HeldRow)) (sector : ℕ) (row : HeldRow) → lookup (is_sector sector) es ≡ Some row → IsFound es sector row
found_in [] sector row is = absurd (cc is)
found_in (e ∷ es) sector row is =
    let here = is_sector sector e.0 in
    ⊎_elim
    (λ yes. record {
      place = 0;
      key = e.0;
      inside = omega arith;
      is = λ d. ap (λ o. (e.0, unwrap_or o row)) (sym (cond-true here (Some e.1) (lookup (is_sector sector) es) yes) ∙ is);
      written = λ other. cond-true here ((e.0, other) ∷ es) (e ∷ set_value (is_sector sector) es other) yes;
      removed = cond-true here es (e ∷ remove_entry (is_sector sector) es) yes ∙ sym (drop_none es);
      its = sym (tells_apart exact_unsigned sector e.0 yes);
    })
    (λ no.
    let found = found_in es sector row (sym (cond-false here (Some e.1) (lookup (is_sector sector) es) no) ∙ is) in record {
      place = suc found.place;
      key = found.key;
      inside = omega (arith, found.inside);
      is = found.is;
      written = λ other. cond-false here ((e.0, other) ∷ es) (e ∷ set_value (is_sector sector) es other) no ∙ ap (λ l. e ∷ l) (found.written other);
      removed = cond-false here es (e ∷ remove_entry (is_sector sector) es) no ∙ ap (λ l. e ∷ l) found.removed;
      its = found.its;
    })
    (cases_Bool here)

-- the place of a new entry of the map
pub record IsPut (es new : List (ℕ × HeldRow)) (e : ℕ × HeldRow) : Type 0 where
  pub place : ℕ
  pub inside : place ≤ length es
  pub is : new ≡ insert es place e

pub put_in : (es : List (ℕ × HeldRow)) (sector : ℕ) (row : HeldRow) → NonePasses (is_sector sector) es → IsPut es (insert_entry nat_cmp es sector row) (sector, row)
put_in [] sector row absent = record { place = 0; inside = omega arith; is = refl }
put_in (e ∷ es) sector row absent = by_order (nat_cmp sector e.0) refl (put_in es sector row absent.1)
  where
    made : Ordering → List (ℕ × HeldRow)
    made o = match_ordering o ((sector, row) ∷ e ∷ es) ((e.0, row) ∷ es) (e ∷ insert_entry nat_cmp es sector row)

    by_order : (o : Ordering) → nat_cmp sector e.0 ≡ o → IsPut es (insert_entry nat_cmp es sector row) (sector, row) → IsPut (e ∷ es) (made (nat_cmp sector e.0)) (sector, row)
    by_order Less is put = record { place = 0; inside = omega arith; is = ap made is }
    by_order Equal is put = absurd (false≢true (sym absent.0 ∙ ap is_eq is))
    by_order Greater is put = record { place = suc put.place; inside = omega (arith, put.inside); is = ap made is ∙ ap (λ l. e ∷ l) put.is }

-- Entries of the map that are under the sectors of their rows.
module _ (es : List (ℕ × HeldRow)) (own : keys_of es ≡ row_sectors (values_of es)) (sector : ℕ) where
  key_is : (place : ℕ) (d : HeldRow) → place < length (values_of es) → get_or (keys_of es) place sector ≡ (get_or (values_of es) place d).placed.at
  key_is place d lt = ap (λ l. get_or l place sector) own ∙ get_or-map (λ (h : HeldRow). h.placed.at) (values_of es) place d sector lt

  -- If a look-up finds nothing, the sector has no row.
  pub none_found : lookup (is_sector sector) es ≡ None → IsUnheld (values_of es) sector
  none_found none place d lt same =
      All-keys_from_lookup (eq_by_cmp_equiv nat_cmp_total) (λ key. key ≢ sector) es
      (λ key some is. absurd (false≢true (sym (ap is_some none) ∙ subst (λ k. IsSome (lookup (is_sector k) es)) is some)))
      place sector (omega (arith, lt, length-map es (λ (e : ℕ × HeldRow). e.0), length-map es (λ (e : ℕ × HeldRow). e.1))) (key_is place d lt ∙ same)

  -- A row that a look-up finds has a place, at which the map's calls write and remove it.
  module _ (row : HeldRow) (is : lookup (is_sector sector) es ≡ Some row) where
    abbrev pub found : IsFound es sector row
    found = found_in es sector row is

    within : found.place < length (values_of es)
    within = omega (arith, found.inside, length-map es (λ (e : ℕ × HeldRow). e.1))

    stands : (d : HeldRow) → get_or (values_of es) found.place d ≡ row
    stands d = get_or-map (λ (e : ℕ × HeldRow). e.1) es found.place (0, d) d found.inside ∙ ap (λ (e : ℕ × HeldRow). e.1) (found.is (0, d))

    pub row_found : IsAtPlace (values_of es) sector found.place row
    row_found = record {
      inside = within;
      is = stands;
      its = ap (λ (h : HeldRow). h.placed.at) (sym (stands no_row)) ∙ sym (key_is found.place no_row within)
          ∙ get_or-map (λ (e : ℕ × HeldRow). e.0) es found.place (0, no_row) sector found.inside ∙ ap (λ (e : ℕ × HeldRow). e.0) (found.is (0, no_row)) ∙ found.its;
    }

    module _ (new : List (ℕ × HeldRow)) (other : HeldRow) (new_is : new ≡ set_value (is_sector sector) es other) where
      pub row_written : values_of new ≡ set (values_of es) found.place other
      row_written = ap values_of (new_is ∙ found.written other) ∙ map-set (λ (e : ℕ × HeldRow). e.1) es found.place (found.key, other)

      pub keys_written : other.placed.at ≡ row.placed.at → keys_of new ≡ row_sectors (values_of new)
      keys_written its =
          ap keys_of new_is ∙ keys-set_value (is_sector sector) es other ∙ own
          ∙ sym (map-set_same (λ (h : HeldRow). h.placed.at) (values_of es) found.place other no_row (its ∙ ap (λ (h : HeldRow). h.placed.at) (sym (stands no_row))))
          ∙ ap row_sectors (sym row_written)

    module _ (new : List (ℕ × HeldRow)) (new_is : new ≡ remove_entry (is_sector sector) es) where
      pub row_removed : values_of new ≡ remove (values_of es) found.place
      row_removed = ap values_of (new_is ∙ found.removed) ∙ map_remove (λ (e : ℕ × HeldRow). e.1) es found.place

      pub keys_removed : keys_of new ≡ row_sectors (values_of new)
      keys_removed =
          ap keys_of (new_is ∙ found.removed) ∙ map_remove (λ (e : ℕ × HeldRow). e.0) es found.place ∙ ap (λ l. remove l found.place) own
          ∙ sym (map_remove (λ (h : HeldRow). h.placed.at) (values_of es) found.place) ∙ ap row_sectors (sym row_removed)

  pub none_there : (o : Option HeldRow) → lookup (is_sector sector) es ≡ o → IsUnheld (values_of es) sector → lookup (is_sector sector) es ≡ None
  none_there None is absent = is
  none_there (Some row) is absent =
      let at = row_found row is in
      absurd (absent (found row is).place row at.inside (ap (λ (h : HeldRow). h.placed.at) (at.is row) ∙ at.its))

  -- A new row has its place in the map too.
  module _ (row : HeldRow) (absent : IsUnheld (values_of es) sector) (new : List (ℕ × HeldRow)) (new_is : new ≡ insert_entry nat_cmp es sector row) where
    abbrev pub put : IsPut es (insert_entry nat_cmp es sector row) (sector, row)
    put = put_in es sector row (none_passes_from_lookup (is_sector sector) es (none_there (lookup (is_sector sector) es) refl absent))

    pub put_inside : put.place ≤ length (values_of es)
    put_inside = omega (arith, put.inside, length-map es (λ (e : ℕ × HeldRow). e.1))

    pub row_put : values_of new ≡ insert (values_of es) put.place row
    row_put = ap values_of (new_is ∙ put.is) ∙ map_insert (λ (e : ℕ × HeldRow). e.1) es put.place (sector, row)

    pub keys_put : row.placed.at ≡ sector → keys_of new ≡ row_sectors (values_of new)
    keys_put its =
        ap keys_of (new_is ∙ put.is) ∙ map_insert (λ (e : ℕ × HeldRow). e.0) es put.place (sector, row) ∙ ap (λ l. insert l put.place sector) own
        ∙ ap (insert (row_sectors (values_of es)) put.place) (sym its) ∙ sym (map_insert (λ (h : HeldRow). h.placed.at) (values_of es) put.place row) ∙ ap row_sectors (sym row_put)
