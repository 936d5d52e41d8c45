use Rattle.std.proofs.Common.{◌+◌, [], length, Err, Ok, sym, ap, subst, ◌∙◌, arith}
use Rattle.std.proofs.lemmas.Result.{err_from_is_err_and}
use Rattle.states.specs.Cost.{catalogues_for}
use Rattle.states.specs.State.{State}
use Rattle.states.specs.Changes.{with_new}
use Rattle.store.specs.Names.{LacksName}
use Rattle.store.specs.Step.{IsAnswer, refusal_of_new}
use Rattle.store.specs.inside.Change.{staged_calls}
use Rattle.store.proofs.Puts.{ok_both}
use Rattle.store.specs.Opened.{IsAt}
use Rattle.store.specs.inside.Prepared.{IsReady}
use Rattle.store.specs.inside.Stored.{IsCounted}
use Rattle.store.proofs.Frees.{facts_of}
use Rattle.store.proofs.Preparing.{answered, first_as, put_entries, put_taken, put_written, at_mid, early_changed, early_held, early_moment, made_changed, made_held, made_moment, makes_mid, stored_as}
use Rattle.store.proofs.store.Store.put_new.Given as given
use Rattle.store.proofs.store.Store.put_new.Goals.{After-prepare_new}
use Rattle.store.proofs.store.Store.put_new.Goals as goal

-- the numbers of the state agree with what is kept
counted : (g : given.Over) (c : After-prepare_new g) (s : State) → IsAt g.D.Disk.facts c.args.self.now s
    → IsCounted c.self.inside.kept.root c.self.inside.kept.entries.items c.self.inside.kept.held c.self.inside.kept.layout s
counted g c s at = facts_of g.D.Disk.facts g.met.D.Disk.holds_now g.met.D.Disk.whole_sectors c.self.view_is c.self.invariant.0 at

pub prepare_new-requires-clause-stored : goal.prepare_new-requires-clause-stored
prepare_new-requires-clause-stored g c = stored_as c.self.inside.kept (sym c.self.invariant.2) c.self.invariant

pub prepare_new-requires-clause-new : goal.prepare_new-requires-clause-new
prepare_new-requires-clause-new g c = subst (λ store. LacksName store c.args.name.now) (sym c.self.view_is) c.requires.new

pub make-requires : goal.make-requires
make-requires g c = subst (λ n. IsReady n c.prepare_new.new.self c.in_ok-prepared.prepared) (sym c.self.invariant.2) c.in_ok-prepared.ensures.prepares.ready

pub returns-in_err-prepared-clause-any_moment : goal.returns-in_err-prepared-clause-any_moment
returns-in_err-prepared-clause-any_moment g c s at = early_moment g.D.Disk.facts c.self.view_is c.prepare_new.ensures.prepares.same s (with_new c.args.name.now c.args.bytes.now s) at

pub returns-in_err-prepared-clause-refused : goal.returns-in_err-prepared-clause-refused
returns-in_err-prepared-clause-refused g c s at =
    let here = counted g (goal.at.returns-in_err-prepared-clause-refused g c).After-prepare_new s at in
    let p = err_from_is_err_and c.from_residual.result c.from_residual.ensures.1 in
    rw (p.1, p.2) (subst (λ first. IsAnswer first (Err c.in_err-prepared.field-0.0)) (first_as g.D.Disk.facts c.self.view_is c.prepare_new.ensures.prepares.same (λ sectors longest. refusal_of_new sectors longest s c.args.bytes.now) here.longest)
    (c.in_err-prepared.ensures.refused (ap (λ o. o.failed) c.self.view_is ∙ at.usable) s here))

pub returns-in_err-prepared-clause-held : goal.returns-in_err-prepared-clause-held
returns-in_err-prepared-clause-held g c = early_held g.D.Disk.facts c.self.view_is c.prepare_new.ensures.prepares.same

pub returns-in_err-prepared-clause-on_any_disk : goal.returns-in_err-prepared-clause-on_any_disk
returns-in_err-prepared-clause-on_any_disk g c =
    early_changed g.D.Disk.facts c.self.view_is c.prepare_new.ensures.prepares.same c.in_err-prepared.field-0.0 c.from_residual.result c.from_residual.ensures.1
    c.in_err-prepared.ensures.prepares

pub invariant_of-self : goal.invariant_of-self
invariant_of-self g c = stored_as c.prepare_new.new.self c.self.invariant.2 c.in_err-prepared.ensures.prepares.stored

pub returns-clause-any_moment : goal.returns-clause-any_moment
returns-clause-any_moment g c s at =
    let facts = g.D.Disk.facts in
    let same = c.prepare_new.ensures.prepares.same in
    made_moment facts c.self.view_is same (c.make.ensures.any_moment [] s (with_new c.args.name.now c.args.bytes.now s) (at_mid facts c.self.view_is same at)
    (makes_mid facts c.self.view_is same c.in_ok-prepared.prepared (c.in_ok-prepared.ensures.makes (facts c.self.inside.disk).now s)))

pub returns-clause-ok : goal.returns-clause-ok
returns-clause-ok g c s at =
    let facts = g.D.Disk.facts in
    let same = c.prepare_new.ensures.prepares.same in
    c.make.ensures.ok [] s (with_new c.args.name.now c.args.bytes.now s) (at_mid facts c.self.view_is same at)
    (makes_mid facts c.self.view_is same c.in_ok-prepared.prepared (c.in_ok-prepared.ensures.makes (facts c.self.inside.disk).now s))

pub returns-clause-refused : goal.returns-clause-refused
returns-clause-refused g c s at =
    let here = counted g (goal.at.returns-clause-refused g c).After-prepare_new s at in
    answered _ c.make.result (subst (λ first. IsAnswer first (Ok tt)) (first_as g.D.Disk.facts c.self.view_is c.prepare_new.ensures.prepares.same (λ sectors longest. refusal_of_new sectors longest s c.args.bytes.now) here.longest)
    (c.in_ok-prepared.ensures.refused (ap (λ o. o.failed) c.self.view_is ∙ at.usable) s here)) c.make.ensures.on_any_disk.refusals

pub returns-clause-placed : goal.returns-clause-placed
returns-clause-placed g c =
    let facts = g.D.Disk.facts in
    let same = c.prepare_new.ensures.prepares.same in
    let puts = c.in_ok-prepared.ensures.puts in
    ok_both c.make.result (λ made written. record {
      put = puts.put;
      taken = put_taken facts c.self.view_is same puts made;
      entries = put_entries facts c.self.view_is same puts made;
      written = put_written facts c.self.view_is same puts made written;
    }) c.make.ensures.made c.make.ensures.written

pub returns-clause-held : goal.returns-clause-held
returns-clause-held g c = made_held g.D.Disk.facts c.self.view_is c.prepare_new.ensures.prepares.same c.make.ensures.held

pub returns-clause-on_any_disk : goal.returns-clause-on_any_disk
returns-clause-on_any_disk g c =
    made_changed g.D.Disk.facts c.self.view_is c.prepare_new.ensures.prepares.same c.make.result c.make.ensures.on_any_disk
    (let puts = c.in_ok-prepared.ensures.puts in
    omega (arith, ap staged_calls puts.staged, puts.size, puts.count, ap (λ o. catalogues_for (length o.entries + 1)) c.self.view_is)) tt

pub invariant_of-self-2 : goal.invariant_of-self-2
invariant_of-self-2 g c = c.make.ensures.stored
