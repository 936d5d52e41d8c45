use Rattle.std.proofs.Common.{◌≡◌, ◌≢◌, ⊎_elim, ◌-◌, All, get_or, [], length, map, Err, refl, sym, subst, ap, ◌∙◌, arith}
use Rattle.std.proofs.lemmas.Bool.{false≢true}
use Rattle.std.proofs.lemmas.List.{length-map}
use Rattle.std.proofs.lemmas.Result.{err_from_is_err_and}
use Rattle.extents.specs.Used.{layout_of}
use Rattle.states.specs.Cost.{catalogues_for}
use Rattle.roots.specs.Root.{listed_preloads}
use Rattle.store.specs.declared.placed_entry.PlacedEntry.{PlacedEntry}
use Rattle.store.specs.declared.refusal.StoreRefusal.{StoreRefusal}
use Rattle.store.specs.declared.change.Staged.TheVariants.{Catalogues}
use Rattle.store.specs.Holds.{in_use}
use Rattle.store.specs.NameOrder.{IsOrderOf, entry_names}
use Rattle.store.specs.Stands.{name_of}
use Rattle.store.specs.Step.{IsExactAnswer, refusal_of_change}
use Rattle.store.specs.Taken.{AreTaken}
use Rattle.store.specs.inside.Kept.{HaveSpellings}
use Rattle.store.specs.inside.NameIndex.{closed_up}
use Rattle.store.specs.inside.Next.{next_root}
use Rattle.store.proofs.Following.{next_catalogues}
use Rattle.store.proofs.Frees.{exactly_done}
use Rattle.store.proofs.Outcomes.{change_accepted, change_ends}
use Rattle.store.proofs.Placing.{singles_in_use}
use Rattle.store.proofs.Preparing.{prepares_ready, tested_change}
use Rattle.store.proofs.Removals.{IsRemoval, catalogues_fit, removal_followed, removal_next, removal_prepared}
use Rattle.store.proofs.UsedAlone.{no_entry}
use Rattle.store.proofs.kept.Kept.prepare_delete.Goals.{After-root_without-root}
use Rattle.store.proofs.kept.Kept.prepare_delete.Goals as goal

-- the entry with the name is removed
removing : (c : After-root_without-root)
    → IsRemoval c.args.self.now.root c.args.self.now.entries.items c.args.self.now.held c.args.self.now.layout c.take_catalogues-taken.new.layout
    c.args.name.now c.in-Some.position c.take_catalogues-taken.result c.root_without-root.result
removing c =
    let kept = c.args.self.now in
    let gone = c.in-Some.position in
    let preloads = map (closed_up gone) (listed_preloads kept.root) in
    let count : c.len-libraries.result ≡ length kept.entries.items = omega (arith, c.len-libraries.ensures) in
    record {
      kept = c.requires.stored.0;
      two = c.requires.stored.4;
      claimed = c.take_catalogues-taken.ensures.claimed;
      fits = omega (arith, c.in-Some.ensures.some.0, ap length c.deref.ensures.value);
      named = λ d. subst (λ l. name_of (get_or l gone d).entry ≡ c.args.name.now) c.deref.ensures.value (c.in-Some.ensures.some.1 d);
      others = c.requires.no_preload;
      later = omega (arith, c.in_ok-test_change.ensures.later, c.requires.stored.0.root_fits.generation);
      enough = c.take_catalogues-taken.ensures.count ∙ c.catalogues_for.ensures ∙ ap (λ n. catalogues_for (n - 1)) count;
      is_next = c.root_without-root.ensures
          ∙ ap (λ n. next_root kept.root (n - 1) c.as_slice.result.now preloads) count
          ∙ ap (λ l. next_root kept.root (length kept.entries.items - 1) l preloads) c.as_slice.ensures.value;
    }

pub returns-in_err-test_change-clause-prepares : goal.returns-in_err-test_change-clause-prepares
returns-in_err-test_change-clause-prepares c =
    let p = err_from_is_err_and c.from_residual.result c.from_residual.ensures.1 in
    rw (p.1, p.2) (tested_change c.requires.stored c.in_err-test_change.field-0.0 tt tt c.in_err-test_change.ensures.refused)

pub returns-in_err-test_change-clause-refused : goal.returns-in_err-test_change-clause-refused
returns-in_err-test_change-clause-refused c usable s counted =
    let p = err_from_is_err_and c.from_residual.result c.from_residual.ensures.1 in
    let answer = λ (e : StoreRefusal). IsExactAnswer (refusal_of_change s) (Err e) in
    rw (p.1, p.2) (⊎_elim
    (λ failed. absurd (false≢true (sym usable ∙ failed.1)))
    (λ last. subst answer (sym last.0) (change_ends counted last.2))
    c.in_err-test_change.ensures.refused)

pub position_of-requires-clause-spellings : goal.position_of-requires-clause-spellings
position_of-requires-clause-spellings c = subst HaveSpellings (sym c.deref.ensures.value) c.requires.stored.0.entries_fit

pub root_without-root-requires-clause-fits : goal.root_without-root-requires-clause-fits
root_without-root-requires-clause-fits c = c.requires.stored.0.root_fits

pub root_without-root-requires-clause-generation : goal.root_without-root-requires-clause-generation
root_without-root-requires-clause-generation c = omega (arith, c.in_ok-test_change.ensures.later, c.requires.stored.0.root_fits.generation)

pub root_without-root-requires-clause-catalogues : goal.root_without-root-requires-clause-catalogues
root_without-root-requires-clause-catalogues c = c.as_slice.ensures.fits

pub position_of-requires-clause-index : goal.position_of-requires-clause-index
position_of-requires-clause-index c = subst (λ l. IsOrderOf (entry_names l) c.args.self.now.index.positions) (sym c.deref.ensures.value) c.requires.stored.1

pub unreachable-requires : goal.unreachable-requires
unreachable-requires c =
    let at = c.requires.present.1 in
    let none = subst (All (λ (placed : PlacedEntry). name_of placed.entry ≢ c.args.name.now)) c.deref.ensures.value (c.in_default.ensures.none refl) in
    none c.requires.present.0 no_entry at.inside (at.named no_entry)

pub take_catalogues-taken-requires-clause-enough : goal.take_catalogues-taken-requires-clause-enough
take_catalogues-taken-requires-clause-enough c =
    let kept = c.args.self.now in
    omega (arith, c.catalogues_for.ensures, c.len-libraries.ensures, catalogues_fit kept.root kept.entries.items kept.held kept.layout c.requires.stored.0 c.requires.stored.4)

pub returns-clause-prepares : goal.returns-clause-prepares
returns-clause-prepares c =
    let is = removing (goal.at.returns-clause-prepares c).After-root_without-root in
    let usable = c.in_ok-test_change.ensures.usable in
    let listed = c.requires.stored.3 usable in
    prepares_ready (record { root = refl; entries = refl; held = refl; failed = refl }) (record {
      change = removal_prepared is;
      list = record {
        within = omega (arith, is.fits, ap length listed, length-map c.args.self.now.entries.items (λ (p : PlacedEntry). p.at));
        memory = tt;
      };
      edit = record { within = is.fits; spelt = tt; names = tt; memory = tt; places = tt };
      indexed = c.requires.stored.1;
      size = refl;
      two = is.two;
      listed = listed;
      usable = usable;
    }) usable

pub returns-clause-makes : goal.returns-clause-makes
returns-clause-makes c now s = removal_followed (removing (goal.at.returns-clause-makes c).After-root_without-root) now s []

pub returns-clause-takes : goal.returns-clause-takes
returns-clause-takes c =
    let is = removing (goal.at.returns-clause-takes c).After-root_without-root in
    let kept = c.args.self.now in
    let taken = c.take_catalogues-taken in
    let listed = next_catalogues (removal_next is) is.kept.root_fits in
    record {
      position = c.in-Some.position;
      at = record { inside = is.fits; named = is.named };
      edits = refl;
      staged = ap Catalogues (sym listed);
      taken = subst (AreTaken (layout_of kept.root.sectors (in_use kept.root kept.entries.items kept.held))) (sym listed)
          (singles_in_use kept.root kept.entries.items kept.held kept.layout is.kept taken.result taken.ensures.taken);
      count = ap length listed ∙ is.enough;
    }

pub returns-clause-refused : goal.returns-clause-refused
returns-clause-refused c usable s counted = exactly_done (change_accepted counted c.in_ok-test_change.ensures.later)
