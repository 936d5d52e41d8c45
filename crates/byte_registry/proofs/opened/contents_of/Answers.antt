use Rattle.std.proofs.Common.{◌≢◌, ⊎_elim, inr, refl, sym, subst, arith}
use Rattle.store.specs.Opening.{RefusesOpen}
use Rattle.store.specs.Stands.{Stands}
use Rattle.store.specs.declared.refusal.StoreRefusal.TheVariants.{Device}
use Rattle.byte_disk.proofs.ReadOnly.{no_failure}
use Rattle.byte_registry.proofs.opened.contents_of.Goals as goal

pub returns-in-Ok-clause-ok : goal.returns-in-Ok-clause-ok
returns-in-Ok-clause-ok c =
    let found = c.in-Ok.ensures.opened.ok refl in
    (found.0, record { size = c.in-Some.ensures.some.0 refl; stands = subst (λ m. Stands m found.0) c.in-Some.ensures.starts.now found.1 }, found.2)

pub returns-in-Ok-clause-held : goal.returns-in-Ok-clause-held
returns-in-Ok-clause-held c s holds = c.in-Ok.ensures.opened.stands refl s (subst (λ m. Stands m s) (sym c.in-Some.ensures.starts.now) holds.stands)

pub returns-in-Err-clause-err : goal.returns-in-Err-clause-err
returns-in-Err-clause-err c =
    let opened = c.in-Err.ensures.opened in
    let given = c.in-Some.ensures.starts in
    let no_device : c.in-Err.refusal ≢ Device = λ device. omega (arith, c.in-Err.ensures.on_any_disk.ends.device device, no_failure c.in-Some.disk c.in-Err._disk (opened.log refl)) in
    record {
      why = inr (c.in-Some.ensures.some.0 refl, subst (λ m. RefusesOpen Stands m c.in-Err.refusal) given.now (opened.refused refl));
      no_failure = no_device;
      held = λ s holds. ⊎_elim (λ device. absurd (no_device device)) (λ want. want) (opened.stands refl s (subst (λ m. Stands m s) (sym given.now) holds.stands));
    }
