use Rattle.std.proofs.Common.{◌+◌, [], IsTrue, false, inl, inr, refl, sym, ap, subst, ◌∙◌, rules, arith}
use Rattle.sector_disk.specs.Disk.{Mixture, LeavesOnly, MayAddSync, AreCallsAtMost}
use Rattle.sector_disk.proofs.Moments.{at_rest, no_calls}
use Rattle.roots.specs.Limits.{most_catalogues}
use Rattle.roots.specs.declared.version.Version.TheVariants.{One, Two}
use Rattle.states.specs.Geometry.{IsGeometry}
use Rattle.states.specs.Limits.{most_libraries}
use Rattle.states.specs.State.{State}
use Rattle.store.specs.Opened.{Opened}
use Rattle.store.specs.Stands.{Stands, StandsOld, StandsEither, state_of}
use Rattle.store.proofs.Openings.{refuses_look, other_version, found_at, found_at_state, opened_calls}
use Rattle.store.proofs.Refusals.{geometry-device}
use Rattle.store.proofs.BadGeometry.{no_geometry, geometry_refused}
use Rattle.store.proofs.store.Store.look.Goals as goal

pub returns-then-not-is_geometry : goal.returns-then-not-is_geometry
returns-then-not-is_geometry g c =
    let disk = g.D.Disk.facts c.args.disk in
    let none : IsGeometry disk.sectors → ⊥ = search rules in
    let here = λ (honest : IsTrue disk.honest). subst (λ n. IsGeometry n → ⊥) (sym (g.met.D.Disk.holds_now _ honest).size) none in
    record {
      any_moment = λ honest. at_rest disk (Mixture disk) (λ m mixture. mixture);
      now = λ honest. refl;
      log = λ honest. record { either = inl refl };
      stands = λ honest s stands. absurd (no_geometry disk.now (here honest) Two s stands);
      stands_old = λ honest s stands. absurd (no_geometry disk.now (here honest) One s stands);
      ok = λ honest. tt;
      refused = λ honest. geometry_refused StandsEither disk.now (here honest);
      unheld = tt;
      usable = tt;
      geometry = tt;
      refusals = none;
      device = λ is. absurd (geometry-device is);
      untouched = λ is. refl;
      calls = record { some = no_calls disk; time = omega arith };
      all_calls = tt;
    }

pub returns-in-One : goal.returns-in-One
returns-in-One g c =
    let now = (g.D.Disk.facts c.args.disk).now in
    let root = c.in-Ok.found.root in
    let items = c.in-Ok.found.entries.items in
    let finds = c.in-Ok.ensures.finds in
    let one = sym c.version.ensures ∙ c.in-One.is in
    let store : Opened g.row.D.Denot = record { disk = c.find_store.new.disk; root = root; entries = items; held = []; failed = false } in
    let at = λ (honest : IsTrue (g.D.Disk.facts c.args.disk).honest). found_at g.D.Disk.facts store c.find_store.new.disk now root items One refl refl refl refl
    (subst IsTrue (sym finds.found.calls.some.honest) honest) (finds.reads honest).now (finds.synced honest) (finds.intact honest) one in
    let never = λ (honest : IsTrue (g.D.Disk.facts c.args.disk).honest) (s : State) (stands : Stands now s).
    let two = other_version now root (finds.intact honest).current Two s stands in absurd (cc (one, two)) in
    record {
      any_moment = λ honest. (finds.reads honest).leaves;
      now = λ honest. (finds.reads honest).now;
      log = λ honest. (finds.reads honest).log;
      stands = never;
      stands_old = λ honest s stands. found_at_state g.D.Disk.facts store c.find_store.new.disk now root items One s stands (at honest) (finds.intact honest) one;
      ok = λ honest. (state_of now root items, inr ((root, items, record { of_version = one; intact = finds.intact honest; is = refl }), at honest));
      refused = λ honest. tt;
      unheld = refl;
      usable = refl;
      geometry = search rules;
      refusals = tt;
      device = tt;
      untouched = tt;
      calls = finds.found.calls;
      all_calls = finds.found.all_calls;
    }

pub returns-in-Two : goal.returns-in-Two
returns-in-Two g c =
    let facts = g.D.Disk.facts in
    let start = facts c.args.disk in
    let now = start.now in
    let root = c.in-Ok.found.root in
    let items = c.in-Ok.found.entries.items in
    let finds = c.in-Ok.ensures.finds in
    let into_store = c.into_store.ensures in
    let two = sym c.version.ensures ∙ c.in-Two.is in
    let at = λ (honest : IsTrue start.honest). found_at facts c.into_store.result c.find_store.new.disk now root items Two into_store.disk into_store.root into_store.entries into_store.usable
    (subst IsTrue (sym finds.found.calls.some.honest) honest) (finds.reads honest).now (finds.synced honest) (finds.intact honest) two in
    let never = λ (honest : IsTrue start.honest) (s : State) (stands : StandsOld now s).
    let one = other_version now root (finds.intact honest).current One s stands in absurd (cc (one, two)) in
    record {
      any_moment = λ honest. subst (λ d. LeavesOnly start (facts d) (Mixture start)) (sym into_store.disk) (finds.reads honest).leaves;
      now = λ honest. ap (λ d. (facts d).now) into_store.disk ∙ (finds.reads honest).now;
      log = λ honest. subst (λ d. MayAddSync start.log (facts d).log) (sym into_store.disk) (finds.reads honest).log;
      stands = λ honest s stands. found_at_state facts c.into_store.result c.find_store.new.disk now root items Two s stands (at honest) (finds.intact honest) two;
      stands_old = never;
      ok = λ honest. (state_of now root items, inl ((root, items, record { of_version = two; intact = finds.intact honest; is = refl }), at honest));
      refused = λ honest. tt;
      unheld = into_store.unheld;
      usable = into_store.usable;
      geometry = search rules;
      refusals = tt;
      device = tt;
      untouched = tt;
      calls = subst (λ d. AreCallsAtMost (3 + most_catalogues + most_libraries) start (facts d)) (sym into_store.disk) finds.found.calls;
      all_calls = opened_calls facts c.into_store.result start c.find_store.new.disk root items into_store.disk into_store.root into_store.entries finds.found.all_calls;
    }

pub returns-in-Err : goal.returns-in-Err
returns-in-Err g c =
    let now = (g.D.Disk.facts c.args.disk).now in
    let why = c.in-Err.ensures.refusals in
    let finds = c.in-Err.ensures.finds in
    record {
      any_moment = λ honest. (finds.reads honest).leaves;
      now = λ honest. (finds.reads honest).now;
      log = λ honest. (finds.reads honest).log;
      stands = λ honest s stands. refuses_look Two now s stands (inl stands) c.in-Err.refusal why (finds.refused honest);
      stands_old = λ honest s stands. refuses_look One now s stands (inr stands) c.in-Err.refusal why (finds.refused honest);
      ok = λ honest. tt;
      refused = finds.refused;
      unheld = tt;
      usable = tt;
      geometry = tt;
      refusals = search rules;
      device = finds.found.device;
      untouched = search rules;
      calls = finds.found.calls;
      all_calls = tt;
    }
