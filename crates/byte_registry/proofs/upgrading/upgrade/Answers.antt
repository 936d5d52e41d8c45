use Rattle.std.proofs.Common.{⊎_elim, inl, refl, sym, subst}
use Rattle.byte_disk.specs.Bytes.{sectors_in}
use Rattle.byte_registry.specs.Asked.{IsUpgraded}
use Rattle.byte_registry.specs.Plans.{synced_plan}
use Rattle.registry.specs.Stands.{Stands, StandsOld}
use Rattle.byte_registry.proofs.Upgrades.{upgraded_old, upgraded_anew, is_disk, current_only, old_only, unupgraded}
use Rattle.byte_registry.proofs.upgrading.upgrade.Goals as goal

pub returns-then-is_current-clause-ok : goal.returns-then-is_current-clause-ok
returns-then-is_current-clause-ok c =
    let bytes = c.args.disk.now in
    let is = c.in-Ok.ensures.ok in
    let found = c.in-Ok-upgrade.ensures.ok refl in
    ⊎_elim
    (λ current. upgraded_anew bytes c.disk_of-then-is_current.result found.0 (subst (λ m. Stands m found.0) is.starts.now current.0) c.disk_of-then-is_current.ensures.ok)
    (λ former. absurd (current_only (sectors_in bytes) c.is_current.result c.is_current.ensures found.0 c.if-is_current.true (subst (λ m. StandsOld m found.0) is.starts.now former.0)))
    found.1

pub returns-then-is_current-clause-err : goal.returns-then-is_current-clause-err
returns-then-is_current-clause-err c = is_disk c.args.disk.now c.disk_of-then-is_current.result c.in-Ok.ensures.ok.size c.disk_of-then-is_current.ensures.err

pub returns-else-is_current-clause-ok : goal.returns-else-is_current-clause-ok
returns-else-is_current-clause-ok c =
    let bytes = c.args.disk.now in
    let is = c.in-Ok.ensures.ok in
    let done = c.in-Ok-upgrade.ensures in
    let found = done.ok refl in (
      found.0,
      subst (λ d. IsUpgraded bytes found.0 (synced_plan d)) (sym c.into_disk-made.ensures) (⊎_elim
          (λ current. absurd (old_only (sectors_in bytes) c.is_current.result c.is_current.ensures found.0 c.if-is_current.false (subst (λ m. Stands m found.0) is.starts.now current.0)))
          (λ former. inl (upgraded_old bytes c.in-Ok.given is c.in-Ok-upgrade.registry found.0 former.0 former.1
          (done.any_moment refl found.0 former.0) (done.placed_old refl found.0 former.0) (done.log_old refl found.0 former.0)))
          found.1),
    )

pub returns-in-Err-upgrade-clause-err : goal.returns-in-Err-upgrade-clause-err
returns-in-Err-upgrade-clause-err c =
    let why = c.in-Err-upgrade.ensures in
    unupgraded c.args.disk.now c.in-Ok.given c.in-Ok.ensures.ok c.in-Err-upgrade.refusal (why.answer refl) (why.stands refl) (why.refused refl)
