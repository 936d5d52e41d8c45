use Rattle.std.proofs.Common.{map}
use Rattle.hash_check.specs.inside.Endings.{AreEndings}
use Rattle.hash_check.specs.inside.Numbered.{AreGathered}
use Rattle.hash_check.proofs.numbered.all_names_by_place.Given as goal

abbrev pub invariant-loop-place : goal.invariant-loop-place
invariant-loop-place l = record {
  gathered : AreGathered (map (λ o. o.now) l.objects) l.place l.gathered.symbols.items l.gathered.names.items;
  endings : AreEndings l.gathered.names.items l.all.items;
}
