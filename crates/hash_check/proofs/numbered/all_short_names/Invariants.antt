use Rattle.std.proofs.Common.{map}
use Rattle.hash_check.specs.inside.Numbered.{AreGathered}
use Rattle.hash_check.proofs.numbered.all_short_names.Given as goal

abbrev pub invariant-loop-place : goal.invariant-loop-place
invariant-loop-place l = AreGathered (map (λ o. o.now) l.objects) l.place l.gathered.symbols.items l.gathered.names.items
