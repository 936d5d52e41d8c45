use Rattle.std.proofs.Common.{◌+◌, IsTrue, inl, refl, sym, ap, subst, ◌∙◌, rules, arith}
use Rattle.sector_disk.specs.Disk.{Mixture, LeavesOnly, MayAddSync, AreCalls, AreCallsAtMost}
use Rattle.sector_disk.proofs.Moments.{at_rest, no_calls}
use Rattle.roots.specs.Limits.{most_catalogues}
use Rattle.roots.specs.declared.version.Version.TheVariants.{Two}
use Rattle.states.specs.Geometry.{IsGeometry}
use Rattle.states.specs.Limits.{most_libraries}
use Rattle.store.specs.Stands.{Stands, state_of}
use Rattle.store.proofs.Openings.{refuses_open, found_at, found_at_state, opened_calls}
use Rattle.store.proofs.StandsLemmas.{one_state}
use Rattle.store.proofs.Refusals.{geometry-device, geometry-old}
use Rattle.store.proofs.BadGeometry.{no_geometry, geometry_refused_open}
use Rattle.store.proofs.store.Store.open.Goals as goal

pub returns-then-not-is_geometry : goal.returns-then-not-is_geometry
returns-then-not-is_geometry g c =
    let disk = g.D.Disk.facts c.args.disk in
    let none : IsGeometry disk.sectors → ⊥ = search rules in
    let here = λ (honest : IsTrue disk.honest). subst (λ n. IsGeometry n → ⊥) (sym (g.met.D.Disk.holds_now _ honest).size) none in
    record {
      opened = record {
        any_moment = λ honest. at_rest disk (Mixture disk) (λ m mixture. mixture);
        now = λ honest. refl;
        log = λ honest. record { either = inl refl };
        ok = λ honest. tt;
        stands = λ honest s stands. absurd (no_geometry disk.now (here honest) Two s stands);
        refused = λ honest. geometry_refused_open Stands disk.now (here honest);
      };
      on_any_disk = record {
        ends = record {
          geometry = tt;
          usable = tt;
          unheld = tt;
          refusals = none;
          device = λ is. absurd (geometry-device is);
          untouched = λ is. refl;
          calls = no_calls disk;
        };
        old_calls = λ is. absurd (geometry-old is);
      };
      most_calls = record { some = no_calls disk; time = omega arith };
      all_calls = tt;
    }

pub returns-in-Ok : goal.returns-in-Ok
returns-in-Ok g c =
    let facts = g.D.Disk.facts in
    let now = (facts c.args.disk).now in
    let root = c.in-Ok.found.root in
    let items = c.in-Ok.found.entries.items in
    let two = c.in-Ok.ensures.version in
    let finds = c.in-Ok.ensures.finds in
    let calls = finds.found.calls.some in
    let at = λ (honest : IsTrue (facts c.args.disk).honest). found_at facts c.into_store.result c.find_current.new.disk now root items Two
    c.into_store.ensures.disk c.into_store.ensures.root c.into_store.ensures.entries c.into_store.ensures.usable
    (subst IsTrue (sym calls.honest) honest) (finds.reads honest).now (finds.synced honest) (finds.intact honest) two in
    let held : IsTrue (facts c.args.disk).honest → Stands now (state_of now root items) =
    λ honest. (root, items, record { of_version = two; intact = finds.intact honest; is = refl }) in record {
      opened = record {
        any_moment = λ honest. subst (λ d. LeavesOnly (facts c.args.disk) (facts d) (Mixture (facts c.args.disk))) (sym c.into_store.ensures.disk) (finds.reads honest).leaves;
        now = λ honest. ap (λ d. (facts d).now) c.into_store.ensures.disk ∙ (finds.reads honest).now;
        log = λ honest. subst (λ d. MayAddSync (facts c.args.disk).log (facts d).log) (sym c.into_store.ensures.disk) (finds.reads honest).log;
        ok = λ honest. (state_of now root items, held honest, at honest, λ other stands. one_state now Two Two other (state_of now root items) stands (held honest));
        stands = λ honest s stands. found_at_state facts c.into_store.result c.find_current.new.disk now root items Two s stands (at honest) (finds.intact honest) two;
        refused = λ _. tt;
      };
      on_any_disk = record {
        ends = record {
          geometry = search rules;
          usable = c.into_store.ensures.usable;
          unheld = c.into_store.ensures.unheld;
          refusals = tt;
          device = tt;
          untouched = tt;
          calls = subst (λ d. AreCalls (facts c.args.disk) (facts d)) (sym c.into_store.ensures.disk) calls;
        };
        old_calls = tt;
      };
      most_calls = subst (λ d. AreCallsAtMost (3 + most_catalogues + most_libraries) (facts c.args.disk) (facts d)) (sym c.into_store.ensures.disk) finds.found.calls;
      all_calls = opened_calls facts c.into_store.result (facts c.args.disk) c.find_current.new.disk root items c.into_store.ensures.disk c.into_store.ensures.root c.into_store.ensures.entries finds.found.all_calls;
    }

pub returns-in-Err : goal.returns-in-Err
returns-in-Err g c =
    let finds = c.in-Err.ensures.finds in
    record {
      opened = record {
        any_moment = λ honest. (finds.reads honest).leaves;
        now = λ honest. (finds.reads honest).now;
        log = λ honest. (finds.reads honest).log;
        ok = λ _. tt;
        stands = λ honest s stands. refuses_open (g.D.Disk.facts c.args.disk).now s stands c.in-Err.refusal c.in-Err.ensures.refusals (finds.refused honest);
        refused = finds.refused;
      };
      on_any_disk = record {
        ends = record {
          geometry = tt;
          usable = tt;
          unheld = tt;
          refusals = search rules;
          device = finds.found.device;
          untouched = search rules;
          calls = finds.found.calls.some;
        };
        old_calls = c.in-Err.ensures.old_calls;
      };
      most_calls = finds.found.calls;
      all_calls = tt;
    }
