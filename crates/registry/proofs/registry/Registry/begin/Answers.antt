use Rattle.std.proofs.Common.{Err, IsTrue, IsFalse, inl, inr, refl, sym, ap, subst, ◌∙◌}
use Rattle.std.proofs.lemmas.Bool.{false≢true}
use Rattle.std.proofs.lemmas.Result.{err_from_is_err_and}
use Rattle.snapshots.specs.Snapshot.{Takes}
use Rattle.requests.specs.declared.refusal.Refusal.TheVariants.{OutOfMemory, Reopen}
use Rattle.registry.specs.Flying.{Begins}
use Rattle.registry.proofs.Flights.{is_begun, isnt_begun, not_begun}
use Rattle.registry.proofs.registry.Registry.begin.Goals.{in-Ok, in-Err}
use Rattle.registry.proofs.registry.Registry.begin.Goals as goal

pub returns-then-has_failed : goal.returns-then-has_failed
returns-then-has_failed g c =
    let failed : IsTrue c.self.inside.store.failed = sym c.has_failed.ensures.value ∙ c.if-has_failed.true in
    subst (λ k. Begins g.D.Disk.facts k k c.args.program.now c.args.base (Err Reopen)) c.self.view_is
    (not_begun g.D.Disk.facts c.self.inside.store c.args.program.now c.args.base c.holds_are_sound.ensures.flags Reopen (λ is. failed, λ is. refl) (inl refl))

pub returns : goal.returns
returns g c =
    subst (λ k. Begins g.D.Disk.facts k c.take.new.store c.args.program.now c.args.base c.match-take.result) c.self.view_is
    (elim c.match-take.branch [
      | in-Ok w ↦ rw w.result-is (is_begun g.D.Disk.facts c.self.inside.store c.take.new.store c.args.program.now c.args.base w.in-Ok.snapshot
          c.entries_are_sound.ensures.own_names c.entries_are_sound.ensures.lengths
          (subst (λ r. Takes g.D.Disk.facts c.self.inside.store c.take.new.store r) w.in-Ok.is c.take.ensures) c.in_ok-program.program.items
          (c.in_ok-program.ensures.items_if_clones_equal (λ x y is. is)))
      | in-Err w ↦ rw w.result-is (rw w.refusal_of_read.ensures (isnt_begun g.D.Disk.facts c.self.inside.store c.take.new.store c.args.program.now c.args.base w.in-Err.refusal
          (subst (λ r. Takes g.D.Disk.facts c.self.inside.store c.take.new.store r) w.in-Err.is c.take.ensures)))
    ])

pub returns-in_err-program : goal.returns-in_err-program
returns-in_err-program g c =
    let p = err_from_is_err_and c.from_residual.result c.from_residual.ensures.1 in
    let usable : IsFalse c.self.inside.store.failed = sym c.has_failed.ensures.value ∙ c.if-has_failed.false in
    subst (λ k. Begins g.D.Disk.facts k k c.args.program.now c.args.base c.from_residual.result) c.self.view_is
    (rw (p.1 ∙ ap Err p.2) (not_begun g.D.Disk.facts c.self.inside.store c.args.program.now c.args.base c.holds_are_sound.ensures.flags OutOfMemory
    (λ is. cc, λ failed. absurd (false≢true (sym usable ∙ failed))) (inr refl)))
