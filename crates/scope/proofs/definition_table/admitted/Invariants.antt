use Rattle.std.proofs.Common.{◌≡◌, ◌≤◌, length, map, take}
use Rattle.std.specs.Vec.{vec_len, vec_capacity}
use Rattle.scope.proofs.definition_table.admitted.Given as goal

abbrev pub invariant-loop-object : goal.invariant-loop-object
invariant-loop-object l = (map (λ o. o.now) l.all.items ≡ map (λ o. o.file) (take l.object-index l.objects)) × (vec_len l.all ≡ l.object-index) × (length l.objects ≤ vec_capacity l.all)
