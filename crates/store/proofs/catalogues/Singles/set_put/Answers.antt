use Rattle.std.proofs.Common.{[], ◌∷◌, ◌++◌, subst, ap, ◌∙◌, arith}
use Rattle.passes.specs.declared.single.SingleSector.{SingleSector}
use Rattle.passes.specs.Singles.{single_places, HoldsSingles}
use Rattle.passes.proofs.Singles.{first_held}
use Rattle.store.specs.inside.Catalogues.{catalogue_singles}
use Rattle.store.proofs.CatalogueSingles.{places-catalogue_singles, length-singles, held_catalogues, held_rest}
use Rattle.store.proofs.catalogues.Singles.set_put.Goals as goal

pub returns : goal.returns
returns c =
    let catalogues = c.args.catalogues.now in
    let sectors = c.args.sectors.now in
    let entry : SingleSector = record { at = c.args.put.now.at; content = c.encode_entry.result } in
    let others = catalogue_singles catalogues sectors in
    let is = c.push_catalogues.ensures ∙ ap (λ l. l ++ others) (c.push.ensures ∙ ap (λ l. l ++ entry ∷ []) c.clear.ensures.items) in
    let places = ap single_places is ∙ ap (λ l. entry.at ∷ l) (places-catalogue_singles catalogues sectors) in
    record {
      places = places;
      count = omega (arith, length-singles c.push_catalogues.new.self (entry.at ∷ catalogues) places);
      entry = λ m held. record {
        has_spelling = c.requires.entry;
        spelling = first_held m entry others (subst (HoldsSingles m) is held) ∙ c.encode_entry.ensures.spelling;
      };
      catalogues = λ m held. held_catalogues m catalogues sectors c.requires.sectors (held_rest m entry others (subst (HoldsSingles m) is held));
    }
