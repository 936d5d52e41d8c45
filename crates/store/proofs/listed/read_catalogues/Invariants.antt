use Rattle.store.proofs.CatalogueReads.{CataloguesSoFar}
use Rattle.store.proofs.listed.read_catalogues.Given as goal

abbrev pub invariant-loop-at : goal.invariant-loop-at
invariant-loop-at g l = CataloguesSoFar (g.D.Disk.facts l.initial.disk) (g.D.Disk.facts l.disk) l.at-items l.fn.root.library_count l.at-index l.listed.items
