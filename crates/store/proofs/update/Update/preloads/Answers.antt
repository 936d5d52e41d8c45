use Rattle.std.proofs.Common.{sym, subst, ap, ◌∙◌}
use Rattle.store.specs.Draft.{IsDraftedAt}
use Rattle.store.specs.Stands.{names_at}
use Rattle.store.proofs.DraftReads.{preloads_drafted}
use Rattle.store.proofs.update.Update.preloads.Goals as goal

pub returns-clause-state : goal.returns-clause-state
returns-clause-state g c s d at =
    preloads_drafted g.D.Disk.facts (subst (λ u. IsDraftedAt g.D.Disk.facts u s d) (sym c.self.view_is) at)
    ∙ ap (names_at d.libraries) (sym c.as_slice.ensures.value)
