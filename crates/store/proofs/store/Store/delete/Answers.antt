use Rattle.std.proofs.Common.{◌-◌, [], length, sym, ap, subst, ◌∙◌, arith}
use Rattle.std.proofs.lemmas.Result.{err_from_is_err_and}
use Rattle.std.proofs.lemmas.Result.{on_ok_weaker}
use Rattle.states.specs.Cost.{catalogues_for}
use Rattle.states.specs.State.{State}
use Rattle.states.specs.Changes.{without}
use Rattle.store.specs.Holds.{layout_in_use}
use Rattle.store.specs.Names.{HasName, IsNoPreload}
use Rattle.store.specs.Stands.{catalogues_of}
use Rattle.store.specs.Taken.{AreTaken, IsNamedAt}
use Rattle.store.specs.inside.Change.{staged_calls}
use Rattle.store.specs.inside.Edit.{edited}
use Rattle.store.specs.inside.Stored.{opened}
use Rattle.store.specs.Opened.{IsAt}
use Rattle.store.specs.inside.Prepared.{IsReady}
use Rattle.store.specs.inside.Stored.{IsCounted}
use Rattle.store.proofs.Frees.{facts_of}
use Rattle.store.proofs.Preparing.{answered_exactly, at_mid, early_changed, early_held, early_moment, made_changed, made_held, made_moment, makes_mid, stored_as}
use Rattle.store.proofs.store.Store.delete.Given as given
use Rattle.store.proofs.store.Store.delete.Goals.{After-prepare_delete}
use Rattle.store.proofs.store.Store.delete.Goals as goal

-- the numbers of the state agree with what is kept
counted : (g : given.Over) (c : After-prepare_delete g) (s : State) → IsAt g.D.Disk.facts c.args.self.now s
    → IsCounted c.self.inside.kept.root c.self.inside.kept.entries.items c.self.inside.kept.held c.self.inside.kept.layout s
counted g c s at = facts_of g.D.Disk.facts g.met.D.Disk.holds_now g.met.D.Disk.whole_sectors c.self.view_is c.self.invariant.0 at

pub prepare_delete-requires-clause-stored : goal.prepare_delete-requires-clause-stored
prepare_delete-requires-clause-stored g c = stored_as c.self.inside.kept (sym c.self.invariant.2) c.self.invariant

pub prepare_delete-requires-clause-present : goal.prepare_delete-requires-clause-present
prepare_delete-requires-clause-present g c =
    let has = subst (λ store. HasName store c.args.name.now) (sym c.self.view_is) c.requires.present in
    (has.0, record { inside = has.1; named = has.2 })

pub prepare_delete-requires-clause-no_preload : goal.prepare_delete-requires-clause-no_preload
prepare_delete-requires-clause-no_preload g c = subst (λ store. IsNoPreload store c.args.name.now) (sym c.self.view_is) c.requires.no_preload

pub make-requires : goal.make-requires
make-requires g c = subst (λ n. IsReady n c.prepare_delete.new.self c.in_ok-prepared.prepared) (sym c.self.invariant.2) c.in_ok-prepared.ensures.prepares.ready

pub returns-in_err-prepared-clause-any_moment : goal.returns-in_err-prepared-clause-any_moment
returns-in_err-prepared-clause-any_moment g c s at = early_moment g.D.Disk.facts c.self.view_is c.prepare_delete.ensures.prepares.same s (without c.args.name.now s) at

pub returns-in_err-prepared-clause-refused : goal.returns-in_err-prepared-clause-refused
returns-in_err-prepared-clause-refused g c s at =
    let here = counted g (goal.at.returns-in_err-prepared-clause-refused g c).After-prepare_delete s at in
    let p = err_from_is_err_and c.from_residual.result c.from_residual.ensures.1 in
    rw (p.1, p.2) (c.in_err-prepared.ensures.refused (ap (λ o. o.failed) c.self.view_is ∙ at.usable) s here)

pub returns-in_err-prepared-clause-held : goal.returns-in_err-prepared-clause-held
returns-in_err-prepared-clause-held g c = early_held g.D.Disk.facts c.self.view_is c.prepare_delete.ensures.prepares.same

pub returns-in_err-prepared-clause-on_any_disk : goal.returns-in_err-prepared-clause-on_any_disk
returns-in_err-prepared-clause-on_any_disk g c =
    early_changed g.D.Disk.facts c.self.view_is c.prepare_delete.ensures.prepares.same c.in_err-prepared.field-0.0 c.from_residual.result c.from_residual.ensures.1
    c.in_err-prepared.ensures.prepares

pub invariant_of-self : goal.invariant_of-self
invariant_of-self g c = stored_as c.prepare_delete.new.self c.self.invariant.2 c.in_err-prepared.ensures.prepares.stored

pub returns-clause-any_moment : goal.returns-clause-any_moment
returns-clause-any_moment g c s at =
    let facts = g.D.Disk.facts in
    let same = c.prepare_delete.ensures.prepares.same in
    made_moment facts c.self.view_is same (c.make.ensures.any_moment [] s (without c.args.name.now s) (at_mid facts c.self.view_is same at)
    (makes_mid facts c.self.view_is same c.in_ok-prepared.prepared (c.in_ok-prepared.ensures.makes (facts c.self.inside.disk).now s)))

pub returns-clause-ok : goal.returns-clause-ok
returns-clause-ok g c s at =
    let facts = g.D.Disk.facts in
    let same = c.prepare_delete.ensures.prepares.same in
    c.make.ensures.ok [] s (without c.args.name.now s) (at_mid facts c.self.view_is same at)
    (makes_mid facts c.self.view_is same c.in_ok-prepared.prepared (c.in_ok-prepared.ensures.makes (facts c.self.inside.disk).now s))

pub returns-clause-refused : goal.returns-clause-refused
returns-clause-refused g c s at =
    let here = counted g (goal.at.returns-clause-refused g c).After-prepare_delete s at in
    answered_exactly _ c.make.result (c.in_ok-prepared.ensures.refused (ap (λ o. o.failed) c.self.view_is ∙ at.usable) s here) c.make.ensures.on_any_disk.refusals

pub returns-clause-placed : goal.returns-clause-placed
returns-clause-placed g c =
    let same = c.prepare_delete.ensures.prepares.same in
    let takes = c.in_ok-prepared.ensures.takes in
    on_ok_weaker c.make.result (λ made. record {
      position = takes.position;
      at = subst (λ store. IsNamedAt store c.args.name.now takes.position) c.self.view_is (record { inside = takes.at.inside; named = takes.at.named });
      taken = subst (λ store. AreTaken (layout_in_use store) (catalogues_of c.make.new.self.root)) c.self.view_is
          (subst (λ r. AreTaken (layout_in_use (opened c.self.inside.disk c.self.inside.kept)) (catalogues_of r)) (sym made.root) takes.taken);
      entries = made.entries ∙ (λ i. edited (takes.edits i) ((same.entries ∙ ap (λ o. o.entries) c.self.view_is) i));
    }) c.make.ensures.made

pub returns-clause-held : goal.returns-clause-held
returns-clause-held g c = made_held g.D.Disk.facts c.self.view_is c.prepare_delete.ensures.prepares.same c.make.ensures.held

pub returns-clause-on_any_disk : goal.returns-clause-on_any_disk
returns-clause-on_any_disk g c =
    made_changed g.D.Disk.facts c.self.view_is c.prepare_delete.ensures.prepares.same c.make.result c.make.ensures.on_any_disk
    (let takes = c.in_ok-prepared.ensures.takes in
    omega (arith, ap staged_calls takes.staged, takes.count, ap (λ o. catalogues_for (length o.entries - 1)) c.self.view_is)) tt

pub invariant_of-self-2 : goal.invariant_of-self-2
invariant_of-self-2 g c = c.make.ensures.stored
