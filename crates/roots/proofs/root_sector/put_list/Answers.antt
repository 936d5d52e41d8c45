use Rattle.roots.proofs.Listed.{four_behind}
use Rattle.std.proofs.Common.{◌++◌, ◌∙◌, ap, sym, refl}
use Rattle.roots.specs.Root.{list_bytes}
use Rattle.roots.proofs.Written.{then_put, then_spelt}
use Rattle.roots.proofs.root_sector.put_list.Goals as goal

pub returns-in-InCatalogues-clause-fields : goal.returns-in-InCatalogues-clause-fields
returns-in-InCatalogues-clause-fields c =
    then_put _ _ _ _ c.put-in-InCatalogues-3.ensures.fields
    (then_put _ _ _ _ c.put_all-in-InCatalogues.ensures.fields
    (then_put _ _ _ _ c.put-in-InCatalogues-2.ensures.fields
    (then_spelt c.args.sector.now _ _ _ _ c.put-in-InCatalogues.ensures.fields c.to_le_bytes.ensures refl)))
    ∙ four_behind c.args.sector.now _ _ _ _
    ∙ ap (λ list. c.args.sector.now ++ list_bytes list) (sym c.in-InCatalogues.is)
