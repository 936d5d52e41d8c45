use Rattle.std.proofs.Common.{⊎_elim, ◌<◌, [], All, Err, refl, sym, subst, ◌∙◌, arith}
use Rattle.std.proofs.lemmas.Bool.{false≢true}
use Rattle.std.proofs.lemmas.Result.{err_from_is_err_and}
use Rattle.store.specs.declared.refusal.StoreRefusal.{StoreRefusal}
use Rattle.store.specs.Stands.{catalogues_of, entry_sectors}
use Rattle.store.specs.Step.{IsExactAnswer, refusal_of_change}
use Rattle.store.specs.inside.Next.{IsNext}
use Rattle.store.proofs.Frees.{exactly_done}
use Rattle.store.proofs.Outcomes.{change_accepted, change_ends}
use Rattle.store.proofs.Preloads.{preloads_followed, preloads_next, preloads_prepared, same_catalogues}
use Rattle.store.proofs.Preparing.{prepares_ready, tested_change}
use Rattle.store.proofs.kept.Kept.prepare_preloads.Goals.{After-with_preloads}
use Rattle.store.proofs.kept.Kept.prepare_preloads.Goals as goal

-- the next root lists the same entries, and the new preloads
choosing : (c : After-with_preloads) → IsNext c.args.self.now.root c.args.self.now.entries.items (catalogues_of c.args.self.now.root) c.args.positions.now c.with_preloads.result
choosing c =
    let kept = c.requires.stored.0 in
    preloads_next c.args.positions.now kept c.requires.stored.4 c.with_preloads.ensures c.requires.few c.requires.inside c.requires.distinct
    (omega (arith, c.in_ok-test_change.ensures.later, kept.root_fits.generation))

pub returns-in_err-test_change-clause-prepares : goal.returns-in_err-test_change-clause-prepares
returns-in_err-test_change-clause-prepares c =
    let p = err_from_is_err_and c.from_residual.result c.from_residual.ensures.1 in
    rw (p.1, p.2) (tested_change c.requires.stored c.in_err-test_change.field-0.0 tt tt c.in_err-test_change.ensures.refused)

pub returns-in_err-test_change-clause-refused : goal.returns-in_err-test_change-clause-refused
returns-in_err-test_change-clause-refused c usable s counted =
    let p = err_from_is_err_and c.from_residual.result c.from_residual.ensures.1 in
    let answer = λ (e : StoreRefusal). IsExactAnswer (refusal_of_change s) (Err e) in
    rw (p.1, p.2) (⊎_elim
    (λ failed. absurd (false≢true (sym usable ∙ failed.1)))
    (λ last. subst answer (sym last.0) (change_ends counted last.2))
    c.in_err-test_change.ensures.refused)

pub with_preloads-requires-clause-fits : goal.with_preloads-requires-clause-fits
with_preloads-requires-clause-fits c = c.requires.stored.0.root_fits

pub with_preloads-requires-clause-generation : goal.with_preloads-requires-clause-generation
with_preloads-requires-clause-generation c = omega (arith, c.in_ok-test_change.ensures.later, c.requires.stored.0.root_fits.generation)

pub with_preloads-requires-clause-inside : goal.with_preloads-requires-clause-inside
with_preloads-requires-clause-inside c = subst (λ n. All (λ position. position < n) c.args.positions.now) c.requires.stored.0.counted c.requires.inside

pub returns-clause-prepares : goal.returns-clause-prepares
returns-clause-prepares c =
    let here = (goal.at.returns-clause-prepares c).After-with_preloads in
    let usable = c.in_ok-test_change.ensures.usable in
    prepares_ready (record { root = refl; entries = refl; held = refl; failed = refl }) (record {
      change = preloads_prepared c.args.positions.now c.requires.stored.0 c.requires.stored.4 c.with_preloads.ensures (choosing here);
      list = record { within = tt; memory = tt };
      edit = record { within = tt; spelt = tt; names = tt; memory = tt; places = tt };
      indexed = c.requires.stored.1;
      size = refl;
      two = c.requires.stored.4;
      listed = c.requires.stored.3 usable;
      usable = usable;
    }) usable

pub returns-clause-makes : goal.returns-clause-makes
returns-clause-makes c now s =
    preloads_followed (choosing (goal.at.returns-clause-makes c).After-with_preloads) c.requires.stored.0.root_fits c.requires.stored.4 now s [] (entry_sectors c.args.self.now.entries.items)

pub returns-clause-catalogues : goal.returns-clause-catalogues
returns-clause-catalogues c = same_catalogues c.args.positions.now c.requires.stored.0 c.requires.stored.4 c.with_preloads.ensures

pub returns-clause-refused : goal.returns-clause-refused
returns-clause-refused c usable s counted = exactly_done (change_accepted counted c.in_ok-test_change.ensures.later)
