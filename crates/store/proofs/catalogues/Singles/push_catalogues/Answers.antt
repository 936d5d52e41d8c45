use Rattle.std.proofs.Common.{◌+◌, ◌-◌, [], ◌∷◌, ◌++◌, length, get_or, take, drop, sym, ap, subst, ◌∙◌, append_assoc, append-nil, arith}
use Rattle.std.proofs.lemmas.List.{drop_all, length-append}
use Rattle.passes.proofs.Runs.{take-min, drop-min}
use Rattle.passes.specs.declared.single.SingleSector.{SingleSector}
use Rattle.roots.specs.Catalogue.{SectorsFit}
use Rattle.store.specs.inside.Catalogues.{CanBeCatalogued, catalogue_single, catalogue_singles}
use Rattle.store.proofs.CatalogueSingles.{part_fits, rest_fits, next_single}
use Rattle.store.proofs.catalogues.Singles.push_catalogues.Goals as goal

pub catalogue_single-requires : goal.catalogue_single-requires
catalogue_single-requires c =
    let rest = c.loop-at.rest.now in
    let part = c.split_at.ensures.front ∙ ap (λ n. take n rest) c.min.ensures ∙ take-min 64 rest in
    subst SectorsFit (sym part) (part_fits _ rest (omega (arith, c.loop-at-test.true)) c.loop-at.invariant.parts)

pub loop-at-preserved : goal.loop-at-preserved
loop-at-preserved c =
    let rest = c.loop-at.rest.now in
    let catalogues = c.args.catalogues.now in
    let i = c.loop-at.at-index in
    let at = get_or catalogues i 0 in
    let part = c.split_at.ensures.front ∙ ap (λ n. take n rest) c.min.ensures ∙ take-min 64 rest in
    let behind = c.split_at.ensures.back ∙ ap (λ n. drop n rest) c.min.ensures ∙ drop-min 64 rest in
    let single = c.catalogue_single.ensures ∙ ap (catalogue_single at) part in
    let others = catalogue_singles (drop (i + 1) catalogues) c.split_at.result.1.now in
    record {
      so_far =
          ap (λ l. l ++ others) c.push.ensures
          ∙ append_assoc c.loop-at.self (c.catalogue_single.result ∷ []) others
          ∙ ap (λ (s : SingleSector). c.loop-at.self ++ s ∷ others) single
          ∙ ap (λ xs. c.loop-at.self ++ catalogue_single at (take 64 rest) ∷ catalogue_singles (drop (i + 1) catalogues) xs) behind
          ∙ ap (λ l. c.loop-at.self ++ l) (sym (next_single i catalogues rest c.loop-at-test.true))
          ∙ c.loop-at.invariant.so_far;
      parts = subst (CanBeCatalogued (length catalogues - (i + 1))) (sym behind) (rest_fits _ _ rest (omega (arith, c.loop-at-test.true)) c.loop-at.invariant.parts);
      room = omega (arith, c.loop-at.invariant.room, ap length c.push.ensures, length-append c.loop-at.self (c.catalogue_single.result ∷ []));
    }

pub returns : goal.returns
returns c =
    sym (append-nil c.loop-at.self)
    ∙ ap (λ l. c.loop-at.self ++ catalogue_singles l c.loop-at.rest.now) (sym (drop_all c.loop-at.at-index c.args.catalogues.now c.loop-at-test.false))
    ∙ c.loop-at.invariant.so_far
