use Rattle.std.proofs.Common.{IsFalse, refl, sym, ap, subst, ◌∙◌}
use Rattle.std.proofs.lemmas.Bool.{false≢true}
use Rattle.store.specs.Draft.{Drafted, IsDraftedAt}
use Rattle.requests.specs.Request.{list}
use Rattle.requests.specs.declared.refusal.Refusal.TheVariants.{OutOfMemory}
use Rattle.requests.specs.declared.reply.Reply.TheVariants.{Listing, Refused}
use Rattle.registry.specs.Drafting.{draft_phase}
use Rattle.registry.proofs.Applying.{leads_same}
use Rattle.registry.proofs.Planning.{draft_stays}
use Rattle.registry.proofs.update.Update.list.Goals as goal

pub returns-then-has_failed-clause-applied : goal.returns-then-has_failed-clause-applied
returns-then-has_failed-clause-applied g c s d at =
    absurd (false≢true (sym (subst (λ (u : Drafted g.row.D.Denot). IsFalse u.store.failed) (sym c.self.view_is) at.stands.usable) ∙ sym c.has_failed.ensures ∙ c.if-has_failed.true))

pub returns-in-Ok-clause-applied : goal.returns-in-Ok-clause-applied
returns-in-Ok-clause-applied g c s d at =
    let facts = g.D.Disk.facts in
    let here = subst (λ u. IsDraftedAt facts u s d) (sym c.self.view_is) at in
    draft_stays facts at list (Listing c.in-Ok.listing) (at.stands.usable, refl, ap Listing (c.in-Ok.ensures d (s, here)), leads_same (draft_phase facts c.args.self.now d))

pub returns-in-Err-clause-applied : goal.returns-in-Err-clause-applied
returns-in-Err-clause-applied g c s d at =
    draft_stays g.D.Disk.facts at list (Refused OutOfMemory) (at.stands.usable, tt, leads_same (draft_phase g.D.Disk.facts c.args.self.now d))
