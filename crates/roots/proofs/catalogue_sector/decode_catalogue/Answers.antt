use Rattle.std.proofs.Common.{◌≡◌, true, Some, ◌∙◌, ap, sym, subst}
use Rattle.roots.specs.Catalogue.{SpellsCatalogue}
use Rattle.roots.proofs.Catalogues.{catalogue_of-spelt}
use Rattle.roots.proofs.catalogue_sector.decode_catalogue.Goals as goal

pub returns-clause-spelt : goal.returns-clause-spelt
returns-clause-spelt c catalogue spells =
    let same = c.catalogue_fields-catalogue.ensures ∙ catalogue_of-spelt c.args.bytes.now catalogue spells in
    let spelt : c.spells.result ≡ true = c.spells.ensures.1 (subst (SpellsCatalogue c.args.bytes.now) (sym same) spells) in
    c.then_some.ensures ∙ rw spelt (ap (λ read. Some read) same)
