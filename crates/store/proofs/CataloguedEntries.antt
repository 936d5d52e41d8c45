-- For callers: which entries can be catalogued, and where the single sectors of a change lie.
use Rattle.std.proofs.Common.{◌≡◌, ℕ, ◌<◌, ◌≤◌, List, [], ◌∷◌, ◌++◌, length, get_or, All, sym, ap, ◌∙◌, arith}
use Rattle.std.specs.List.{flat_map}
use Rattle.std.proofs.lemmas.List.{length-map}
use Rattle.std.proofs.lemmas.List.Elements.{All-map, All-contains}
use Rattle.std.proofs.lemmas.List.Sums.{sum_by-cons}
use Rattle.extents.specs.Extent.{places}
use Rattle.extents.specs.Limits.{root_sectors, most_sectors}
use Rattle.passes.specs.Singles.{single_places}
use Rattle.passes.specs.declared.single.SingleSector.{SingleSector}
use Rattle.passes.proofs.Singles.{place_among}
use Rattle.roots.specs.declared.root.Root.{Root}
use Rattle.states.specs.Limits.{most_libraries}
use Rattle.states.specs.Cost.{catalogues_for}
use Rattle.store.specs.declared.placed_entry.PlacedEntry.{PlacedEntry}
use Rattle.store.specs.Stands.{UsesApart, catalogues_of, entry_sectors, extents_of, sectors_of, used}
use Rattle.store.specs.inside.Catalogues.{CanBeCatalogued}
use Rattle.store.proofs.Counts.{one, occurs, occurs-append, distinct_occurs, occurs_distinct}
use Rattle.store.proofs.UsedAlone.{own_used}

-- a sector occurs at most as often among the entries' own sectors as among all sectors of the entries
own_once : (k : ℕ) (entries : List PlacedEntry) → occurs k (entry_sectors entries) ≤ occurs k (flat_map sectors_of entries)
own_once k [] = omega arith
own_once k (e ∷ entries) = omega (
  arith,
  sum_by-cons (one k) e.at (entry_sectors entries),
  sum_by-cons (one k) e.at (places (extents_of e.entry) ++ flat_map sectors_of entries),
  occurs-append k (places (extents_of e.entry)) (flat_map sectors_of entries),
  own_once k entries,
)

-- Entries whose sectors are distinct can be listed by as many catalogues as they need.
pub can_be_catalogued : (sectors catalogues : ℕ) (root : Root) (entries : List PlacedEntry) → sectors ≤ most_sectors
    → catalogues ≡ catalogues_for (length entries) → length entries ≤ most_libraries → UsesApart sectors root entries
    → CanBeCatalogued catalogues (entry_sectors entries)
can_be_catalogued sectors catalogues root entries fit enough few apart =
    let size = length-map entries (λ (p : PlacedEntry). p.at) in
    let here : (k : ℕ) → occurs k (entry_sectors entries) ≤ 1 = λ k. omega (
      arith,
      own_once k entries,
      occurs-append k (catalogues_of root) (flat_map sectors_of entries),
      distinct_occurs k (used root entries) apart.once,
    ) in
    record {
      enough = enough ∙ ap catalogues_for (sym size);
      few = omega (arith, few, size);
      inside = All-map (λ k. (root_sectors ≤ k) × (k < most_sectors)) (λ (p : PlacedEntry). p.at) entries (λ i d lt.
          let both = All-contains (λ k. (root_sectors ≤ k) × (k < sectors)) (used root entries) (get_or entries i d).at apart.inside (own_used root entries i d lt) in
          (both.0, omega (arith, both.1, fit)));
      distinct = occurs_distinct (entry_sectors entries) here;
    }

-- If `P` holds of all places, it holds of the place of each single sector.
pub all_singles : (P : ℕ → Type 0) (singles : List SingleSector) → All P (single_places singles) → All (λ single. P single.at) singles
all_singles P singles all i d lt = All-contains P (single_places singles) (get_or singles i d).at all (place_among singles i d lt)
