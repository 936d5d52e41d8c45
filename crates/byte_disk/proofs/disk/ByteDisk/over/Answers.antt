use Rattle.std.proofs.Common.{◌≡◌, [], refl, subst, sym}
use Rattle.std.proofs.lemmas.List.Elements.{All-nil}
use Rattle.std.specs.Prelude.{nat_eq}
use Rattle.std.specs.Map.{lookup}
use Rattle.std.specs.HashMap.{get}
use Rattle.sector_disk.specs.Disk.{sector}
use Rattle.byte_disk.specs.Plan.{carried_out, IsWriteOn}
use Rattle.byte_disk.specs.inside.Latest.{plan_in, content_by}
use Rattle.byte_disk.proofs.disk.ByteDisk.over.Goals as goal

pub invariant_of-result-clause-writes : goal.invariant_of-result-clause-writes
invariant_of-result-clause-writes c = rw c.new.ensures.items (All-nil (IsWriteOn _))

pub invariant_of-result-clause-is_latest : goal.invariant_of-result-clause-is_latest
invariant_of-result-clause-is_latest c k lt =
    let start = c.in-Some.start.now in
    subst (λ planned. content_by start (plan_in planned) k (get nat_eq c.new-2.result k) ≡ sector (carried_out start (plan_in planned)) k) (sym c.new.ensures.items)
    (subst (λ entries. content_by start [] k (lookup (nat_eq k) entries) ≡ sector start k) (sym c.new-2.ensures.empty) refl)
