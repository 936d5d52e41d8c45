use Rattle.std.proofs.Common.{refl, sym, ap, subst}
use Rattle.store.specs.Opened as store
use Rattle.requests.specs.Request.{list}
use Rattle.requests.specs.declared.reply.Reply.TheVariants.{Listing}
use Rattle.registry.specs.Phase.{phase_of}
use Rattle.registry.proofs.Applying.{leads_same, untouched}
use Rattle.registry.proofs.registry.Registry.list.Goals as goal

pub returns-in-Ok-clause-applied : goal.returns-in-Ok-clause-applied
returns-in-Ok-clause-applied g c s at =
    let facts = g.D.Disk.facts in
    let now = c.args.self.now in
    let here = subst (λ r. store.IsAt facts r s) (sym c.self.view_is) at in
    untouched facts now s at list (Listing c.in-Ok.listing) (at.usable, refl, ap Listing (c.in-Ok.ensures s here), leads_same (phase_of facts now s))
