use Rattle.std.proofs.Common.{◌++◌, get_or, length, sym, subst}
use Rattle.std.proofs.lemmas.List.{get_or_default}
use Rattle.store.specs.declared.placed_entry.PlacedEntry.{PlacedEntry}
use Rattle.store.specs.Stands.{sectors_of}
use Rattle.store.specs.inside.Edit.{IsWithin, gone_sectors, no_entry}
use Rattle.store.specs.inside.Room.{AreClaimedOnce}
use Rattle.store.proofs.edit.Edit.release_replaced.Goals as goal

pub give_up-requires-clause-held : goal.give_up-requires-clause-held
give_up-requires-clause-held c =
    let entries = c.args.entries.now in
    let within = subst (λ e. IsWithin e (length entries)) c.in-Replace.is c.requires.within in
    let held = subst (λ e. AreClaimedOnce c.args.layout.now (gone_sectors e c.args.root.now entries)) c.in-Replace.is c.requires.held in
    subst (λ (p : PlacedEntry). AreClaimedOnce c.args.layout.now (sectors_of p ++ c.catalogues-in-Replace.result.now)) (get_or_default entries c.in-Replace.position no_entry _ within)
    (subst (λ l. AreClaimedOnce c.args.layout.now (sectors_of (get_or entries c.in-Replace.position no_entry) ++ l)) (sym c.catalogues-in-Replace.ensures) held)

pub give_up-requires-in-Remove-clause-held : goal.give_up-requires-in-Remove-clause-held
give_up-requires-in-Remove-clause-held c =
    let entries = c.args.entries.now in
    let within = subst (λ e. IsWithin e (length entries)) c.in-Remove.is c.requires.within in
    let held = subst (λ e. AreClaimedOnce c.args.layout.now (gone_sectors e c.args.root.now entries)) c.in-Remove.is c.requires.held in
    subst (λ (p : PlacedEntry). AreClaimedOnce c.args.layout.now (sectors_of p ++ c.catalogues-in-Remove.result.now)) (get_or_default entries c.in-Remove.position no_entry _ within)
    (subst (λ l. AreClaimedOnce c.args.layout.now (sectors_of (get_or entries c.in-Remove.position no_entry) ++ l)) (sym c.catalogues-in-Remove.ensures) held)
