use Rattle.std.proofs.Common.{◌≡◌, ◌+◌, ◌-◌, ◌≤◌, ◌++◌, length, drop}
use Rattle.store.specs.inside.Catalogues.{catalogue_singles, CanBeCatalogued}
use Rattle.store.proofs.catalogues.Singles.push_catalogues.Given as goal

abbrev pub invariant-loop-at : goal.invariant-loop-at
invariant-loop-at l = record {
  so_far : l.self ++ catalogue_singles (drop l.at-index l.catalogues) l.rest ≡ l.fn.self ++ catalogue_singles l.catalogues l.fn.sectors;
  parts : CanBeCatalogued (length l.catalogues - l.at-index) l.rest;
  room : length l.self ≤ l.at-index + 1;
}
