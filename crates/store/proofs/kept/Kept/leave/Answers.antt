use Rattle.std.proofs.Common.{◌≡◌, false, rules, sym, ap, subst, ◌∙◌}
use Rattle.store.specs.Draft.{lists}
use Rattle.store.specs.inside.Room.{AreClaimedOnce}
use Rattle.store.proofs.Drafts.{own_unlisted}
use Rattle.store.proofs.kept.Kept.leave.Goals as goal

pub give_back-requires-clause-held : goal.give_back-requires-clause-held
give_back-requires-clause-held c =
    let entries = c.args.self.now.entries.items in
    let isnt : c.has_entry.result ≡ false = search rules in
    let unlisted : lists entries c.args.placed.now ≡ false = ap (λ l. lists l c.args.placed.now) (sym c.deref.ensures.value) ∙ sym c.has_entry.ensures ∙ isnt in
    subst (AreClaimedOnce c.args.self.now.layout) (own_unlisted entries c.args.placed.now unlisted) c.requires.held
