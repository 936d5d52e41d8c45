use Rattle.std.proofs.Common.{◌≡◌, true, Some, ◌∙◌, ap, sym, subst}
use Rattle.roots.specs.Entry.{SpellsEntry}
use Rattle.roots.proofs.Entries.{entry_of-spelt}
use Rattle.roots.proofs.entry_sector.decode_entry.Goals as goal

pub returns-clause-spelt : goal.returns-clause-spelt
returns-clause-spelt c entry spells =
    let same = c.entry_fields-entry.ensures ∙ entry_of-spelt c.args.bytes.now entry spells in
    let spelt : c.spells.result ≡ true = c.spells.ensures.1 (subst (SpellsEntry c.args.bytes.now) (sym same) spells) in
    c.then_some.ensures ∙ rw spelt (ap (λ e. Some e) same)
