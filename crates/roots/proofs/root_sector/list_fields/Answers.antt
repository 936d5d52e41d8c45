use Rattle.std.proofs.Common.{◌∙◌, sym, ap₂}
use Rattle.std.proofs.lemmas.Bool.{cond-true}
use Rattle.roots.specs.declared.entry_list.EntryList.TheVariants.{InCatalogues}
use Rattle.roots.specs.inside.Reading.{list_of}
use Rattle.roots.proofs.root_sector.list_fields.Goals as goal

pub returns-then-starts_with : goal.returns-then-starts_with
unfolding list_of
returns-then-starts_with c =
    ap₂ (λ count sectors. InCatalogues count sectors) c.read_at.ensures c.values_at.ensures ∙ sym (cond-true _ _ _ (sym c.starts_with.ensures.value ∙ c.if-starts_with.true))
