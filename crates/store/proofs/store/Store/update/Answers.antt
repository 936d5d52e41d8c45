use Rattle.std.proofs.Common.{sym, ap, subst, ◌∙◌}
use Rattle.roots.specs.Root.{listed_preloads}
use Rattle.store.specs.Opened.{IsAt}
use Rattle.store.proofs.DraftBegins.{begins, begins_at}
use Rattle.store.proofs.store.Store.update.Goals as goal

pub over-requires : goal.over-requires
over-requires g c = c.self.invariant.0.root_fits

pub invariant_of-result : goal.invariant_of-result
invariant_of-result g c =
    let its = c.in-Ok.ensures in
    begins c.self.inside.kept c.self.invariant c.if-self.false c.in-Ok.draft its.entries its.sectors its.index its.preloads its.touched

pub returns-in-Ok-clause-begun : goal.returns-in-Ok-clause-begun
returns-in-Ok-clause-begun g c =
    let its = c.in-Ok.ensures in
    λ i. record {
      store = c.self.view_is i;
      entries = (its.entries ∙ ap (λ o. o.entries) c.self.view_is) i;
      preloads = (its.preloads ∙ ap (λ o. listed_preloads o.root) c.self.view_is) i;
      touched = its.touched i;
    }

pub returns-in-Ok-clause-ok : goal.returns-in-Ok-clause-ok
returns-in-Ok-clause-ok g c s at =
    let its = c.in-Ok.ensures in
    begins_at c.self.inside.kept c.self.invariant c.if-self.false c.in-Ok.draft its.entries its.sectors its.index its.preloads its.touched
    g.D.Disk.facts c.self.inside.disk (g.met.D.Disk.holds_now _) s (subst (λ o. IsAt g.D.Disk.facts o s) (sym c.self.view_is) at)
