use Rattle.std.proofs.Common.{◌≡◌, drop}
use Rattle.store.specs.inside.Draft.{own_sectors_in, with_layout}
use Rattle.store.proofs.Releases.{IsReleasedTo}
use Rattle.store.proofs.kept.Kept.leave_all.Given as goal

abbrev pub invariant-loop-placed : goal.invariant-loop-placed
invariant-loop-placed l = record {
  kept : l.self ≡ with_layout l.initial.self l.self.layout;
  freed : IsReleasedTo l.initial.self.layout l.self.layout (own_sectors_in l.initial.self.entries.items l.entries)
      (own_sectors_in l.initial.self.entries.items (drop l.placed-index l.entries));
}
