use Rattle.std.proofs.Common.{◌++◌, subst, ap, ◌∙◌}
use Rattle.passes.specs.Singles.{single_places, HoldsSingles}
use Rattle.store.specs.inside.Catalogues.{catalogue_singles}
use Rattle.store.proofs.CatalogueSingles.{places-catalogue_singles, length-singles, held_catalogues}
use Rattle.store.proofs.catalogues.Singles.set_catalogues.Goals as goal

pub returns : goal.returns
returns c =
    let catalogues = c.args.catalogues.now in
    let sectors = c.args.sectors.now in
    let is = c.push_catalogues.ensures ∙ ap (λ l. l ++ catalogue_singles catalogues sectors) c.clear.ensures.items in
    let places = ap single_places is ∙ places-catalogue_singles catalogues sectors in
    record {
      places = places;
      count = length-singles c.push_catalogues.new.self catalogues places;
      held = λ m held. held_catalogues m catalogues sectors c.requires (subst (HoldsSingles m) is held);
    }
