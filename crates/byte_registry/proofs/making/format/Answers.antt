use Rattle.std.proofs.Common.{refl, sym, subst}
use Rattle.byte_registry.specs.Asked.{IsFormatted}
use Rattle.byte_registry.specs.Plans.{synced_plan}
use Rattle.byte_registry.proofs.Upgrades.{formatted}
use Rattle.byte_registry.proofs.making.format.Goals as goal

pub returns-in-Ok-format-clause-ok : goal.returns-in-Ok-format-clause-ok
returns-in-Ok-format-clause-ok c =
    let made = c.in-Ok-format.ensures.making in
    subst (λ d. IsFormatted c.args.disk.now (synced_plan d)) (sym c.into_disk.ensures)
    (formatted c.args.disk.now c.in-Ok.disk c.in-Ok-format.registry c.in-Ok.ensures.ok (made.any_moment refl) (made.ok refl) (made.unformatted refl) (made.log refl))
