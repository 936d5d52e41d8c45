use Rattle.std.proofs.Common.{◌≡◌, ◌⊎◌, ◌+◌, inl, inr, length, All, IsTrue, sym, subst, ◌∙◌}
use Rattle.std.proofs.lemmas.Result.{err_from_is_err_and, IfOk-weaker, IfErr-weaker}
use Rattle.sector_disk.specs.Disk.{Mixture, LeavesOnly, MayAddSync, AreCalls, AreCallsExactly}
use Rattle.sector_disk.proofs.Moments.{weaken, more_calls}
use Rattle.store.specs.Stands.{catalogues_of}
use Rattle.registry.specs.Stands.{Stands, StandsOld}
use Rattle.roots.specs.declared.version.Version.TheVariants.{One, Two}
use Rattle.states.specs.Geometry.{IsGeometry}
use Rattle.states.specs.State.{State}
use Rattle.store.specs.Looked.{seen}
use Rattle.store.specs.Step.{refusal_of_upgrade, answer_of, IsUpgradeAnswer}
use Rattle.store.specs.Taken.{IsRelisted}
use Rattle.store.specs.Upgraded.{upgraded, IsRelistedFrom}
use Rattle.store.proofs.Upgrades.{seen_current, current_at, seen_old, old_at, current_found, old_found, sectors_seen, relisted_from}
use Rattle.requests.specs.Library.{IsLibrary}
use Rattle.registry.specs.Opened.{IsAt}
use Rattle.registry.specs.Upgraded.{IsUpgradeOf}
use Rattle.registry.proofs.Openings.{leaves_then, err_both, either_result, libraries_refuse, refuses_seen, refuses_look, of_refused}
use Rattle.registry.proofs.Upgrades.{as_read, admitted_calls, relisted_calls, relisted_log, then_upgraded, refuses_looked, refuses_admitted, refuses_relisted, device_since, untouched_since}
use Rattle.registry.proofs.registry.Registry.upgrade.Goals as goal

pub returns-in_err-store : goal.returns-in_err-store
returns-in_err-store g c =
    let p = err_from_is_err_and c.from_residual.result c.from_residual.ensures.1 in
    let start = g.D.Disk.facts c.args.disk in
    let e = c.in_err-store.field-0.0 in
    let look = c.in_err-store.ensures in
    rw (p.1, p.2) (record {
      any_moment = λ honest s stands. weaken (Mixture start) (λ m. Mixture start m ⊎ StandsOld m s ⊎ Stands m (upgraded s)) (λ m mixture. inl mixture) (look.any_moment honest);
      left_alone = λ honest none. look.any_moment honest;
      now = λ honest none. look.now honest;
      unwritten = λ honest other. look.any_moment honest;
      now_refused = λ honest other. look.now honest;
      ok = λ honest. tt;
      stands = λ honest s stands. look.stands honest s stands.stored;
      stands_old = λ honest s stands. tt;
      placed_old = λ honest s stands. tt;
      answer = λ honest s stands. as_read (refusal_of_upgrade start.sectors s) e.0 (look.stands_old honest s stands.stored);
      refused = λ honest none. refuses_look start.now e.0 (look.refused honest);
      calls_current = λ honest s stands. tt;
      calls_old = λ honest s stands. tt;
      log_old = λ honest s stands. tt;
      on_any_disk = record {
        geometry = tt;
        usable = tt;
        unheld = tt;
        refusals = refuses_looked start.sectors e.0 look.refusals;
        device = look.device;
        untouched = look.untouched;
        calls = look.calls.some;
      };
    })

pub returns-in-Current : goal.returns-in-Current
returns-in-Current g c =
    let facts = g.D.Disk.facts in
    let start = facts c.args.disk in
    let store = c.in-Current.store in
    let is = c.in-Current.is in
    let look = c.in_ok-store.ensures in
    let seen_as = c.in_ok-store.field-0 in
    let result = c.admit_current.result in
    let admitted = c.admit_current.ensures in
    let calls = subst (λ l. AreCalls start (facts (seen l).disk)) is look.calls.some in
    let still : IsTrue start.honest → IsTrue (facts store.disk).honest = λ honest. subst IsTrue (sym calls.honest) honest in
    let unwritten : IsTrue start.honest → LeavesOnly start (facts store.disk) (Mixture start) =
    λ honest. subst (λ l. LeavesOnly start (facts (seen l).disk) (Mixture start)) is (look.any_moment honest) in
    let unchanged : IsTrue start.honest → (facts store.disk).now ≡ start.now = λ honest. subst (λ l. (facts (seen l).disk).now ≡ start.now) is (look.now honest) in
    let found = λ (honest : IsTrue start.honest). current_found facts seen_as store start.now (look.ok honest) is in
    let none_old = λ (honest : IsTrue start.honest) (s : State) (stands : StandsOld start.now s). seen_current facts seen_as store is s (look.stands_old honest s stands.stored) in
    let refusals = IfErr-weaker result _ _ (λ e which. refuses_admitted start.sectors e.0 look.geometry which) admitted.refusals in
    record {
      any_moment = λ honest s stands. absurd (none_old honest s stands);
      left_alone = λ honest none. leaves_then (unwritten honest) (admitted.any_moment (still honest));
      now = λ honest none. admitted.now (still honest) ∙ unchanged honest;
      unwritten = λ honest. of_refused (λ d. LeavesOnly start (facts d) (Mixture start)) result (leaves_then (unwritten honest) (admitted.any_moment (still honest)));
      now_refused = λ honest. of_refused (λ d. (facts d).now ≡ start.now) result (admitted.now (still honest) ∙ unchanged honest);
      ok = λ honest.
          IfOk-weaker result (λ registry. IsAt facts registry (found honest).0) (λ registry. (s : State) × IsUpgradeOf facts registry start.now s)
          (λ registry at. ((found honest).0, inl (record { stored = (found honest).1; libraries = at.libraries }, at))) (admitted.ok (found honest).0 (found honest).2);
      stands = λ honest s stands.
          let at = current_at facts seen_as store is s (look.stands honest s stands.stored) in
          either_result _ _ result (admitted.ok s at)
          (err_both _ _ _ result (λ e which damaged. libraries_refuse e.0 which (λ is. damaged is stands.libraries)) admitted.refusals
          (admitted.damaged s at));
      stands_old = λ honest s stands. absurd (none_old honest s stands);
      placed_old = λ honest s stands. absurd (none_old honest s stands);
      answer = λ honest s stands. absurd (none_old honest s stands);
      refused = λ honest none.
          let geometry : IsGeometry (length start.now) = subst IsGeometry (sym (g.met.D.Disk.holds_now _ honest).size) look.geometry in
          err_both _ _ _ result (λ e which damaged. refuses_seen start.now Two (found honest).0 (found honest).1 e.0 which geometry damaged)
          admitted.refusals (admitted.damaged (found honest).0 (found honest).2);
      calls_current = λ honest s stands.
          let looked = subst (λ l. AreCallsExactly (3 + length (catalogues_of (seen l).root) + length (seen l).entries) start (facts (seen l).disk)) is look.all_calls in
          admitted_calls facts start store looked result admitted.kept admitted.all_calls;
      calls_old = λ honest s stands. absurd (none_old honest s stands);
      log_old = λ honest s stands. absurd (none_old honest s stands);
      on_any_disk = record {
        geometry = IfOk-weaker result _ _ (λ registry kept. look.geometry) admitted.kept;
        usable = IfOk-weaker result _ _ (λ registry kept. kept.2) admitted.kept;
        unheld = admitted.unheld;
        refusals = refusals;
        device = device_since facts c.args.disk store.disk calls result admitted.device;
        untouched = untouched_since facts c.args.disk look.geometry result refusals;
        calls = more_calls calls admitted.calls;
      };
    }

pub returns-in-Old : goal.returns-in-Old
returns-in-Old g c =
    let facts = g.D.Disk.facts in
    let start = facts c.args.disk in
    let store = c.in-Old.store in
    let is = c.in-Old.is in
    let look = c.in_ok-store.ensures in
    let seen_as = c.in_ok-store.field-0 in
    let result = c.admit_old.result in
    let admitted = c.admit_old.ensures in
    let calls = subst (λ l. AreCalls start (facts (seen l).disk)) is look.calls.some in
    let unwritten : IsTrue start.honest → LeavesOnly start (facts store.disk) (Mixture start) =
    λ honest. subst (λ l. LeavesOnly start (facts (seen l).disk) (Mixture start)) is (look.any_moment honest) in
    let unchanged : IsTrue start.honest → (facts store.disk).now ≡ start.now = λ honest. subst (λ l. (facts (seen l).disk).now ≡ start.now) is (look.now honest) in
    let found = λ (honest : IsTrue start.honest). old_found facts seen_as store start.now (look.ok honest) is in
    let lacks = λ (honest : IsTrue start.honest) (none : (s : State) → StandsOld start.now s → ⊥)
    (libraries : All IsLibrary (found honest).0.libraries). none (found honest).0 (record { stored = (found honest).1; libraries = libraries }) in
    let at_old = λ (honest : IsTrue start.honest) (s : State) (stands : StandsOld start.now s). old_at facts seen_as store is s (look.stands_old honest s stands.stored) in
    let none_current = λ (honest : IsTrue start.honest) (s : State) (stands : Stands start.now s). seen_old facts seen_as store is s (look.stands honest s stands.stored) in
    let refusals = IfErr-weaker result _ _ (λ e which. refuses_relisted start.sectors e.0 look.geometry which) admitted.refusals in
    record {
      any_moment = λ honest s stands. then_upgraded facts seen_as store start _ s is (look.any_moment honest) (admitted.any_moment s (at_old honest s stands) stands.libraries);
      left_alone = λ honest none. leaves_then (unwritten honest) (admitted.left_alone (found honest).0 (found honest).2 (lacks honest none));
      now = λ honest none. admitted.now (found honest).0 (found honest).2 (lacks honest none) ∙ unchanged honest;
      unwritten = λ honest. IfErr-weaker result _ _ (λ e leaves other. leaves_then (unwritten honest) (leaves other)) (admitted.unwritten (found honest).2.honest);
      now_refused = λ honest. IfErr-weaker result _ _ (λ e same other. same other ∙ unchanged honest) (admitted.now_refused (found honest).2.honest);
      ok = λ honest.
          IfOk-weaker result (λ registry. All IsLibrary (found honest).0.libraries × IsAt facts registry (upgraded (found honest).0)) (λ registry. (s : State) × IsUpgradeOf facts registry start.now s)
          (λ registry both. ((found honest).0, inr (record { stored = (found honest).1; libraries = both.0 }, both.1))) (admitted.ok (found honest).0 (found honest).2);
      stands = λ honest s stands. absurd (none_current honest s stands);
      stands_old = λ honest s stands.
          IfOk-weaker result (λ registry. All IsLibrary s.libraries × IsAt facts registry (upgraded s)) (λ registry. IsAt facts registry (upgraded s)) (λ registry both. both.1)
          (admitted.ok s (at_old honest s stands));
      placed_old = λ honest s stands.
          let at = at_old honest s stands in
          IfOk-weaker result (IsRelisted store) (IsRelistedFrom start.now s) (relisted_from facts store s at (g.met.D.Disk.holds_now _ at.honest) start.now (unchanged honest)) admitted.placed;
      answer = λ honest s stands.
          let at = at_old honest s stands in
          subst (λ n. IsUpgradeAnswer (refusal_of_upgrade n s) (answer_of result)) (sectors_seen facts seen_as store s at (g.met.D.Disk.holds_now _ at.honest) ∙ calls.sectors)
          (admitted.answer s at stands.libraries);
      refused = λ honest none.
          let geometry : IsGeometry (length start.now) = subst IsGeometry (sym (g.met.D.Disk.holds_now _ honest).size) look.geometry in
          IfErr-weaker result _ _ (λ e which. refuses_seen start.now One (found honest).0 (found honest).1 e.0 which geometry
          (λ is. lacks honest none)) (admitted.no_library (found honest).0 (found honest).2 (lacks honest none));
      calls_current = λ honest s stands. absurd (none_current honest s stands);
      calls_old = λ honest s stands.
          let at = at_old honest s stands in
          let looked = subst (λ l. AreCallsExactly (3 + length (catalogues_of (seen l).root) + length (seen l).entries) start (facts (seen l).disk)) is look.all_calls in
          relisted_calls facts start store looked (at.stands _ (g.met.D.Disk.holds_now _ at.honest)).of_version result admitted.placed admitted.all_calls;
      log_old = λ honest s stands.
          relisted_log facts store start.log (subst (λ l. MayAddSync start.log (facts (seen l).disk).log) is (look.log honest)) result admitted.placed (admitted.log (at_old honest s stands).honest);
      on_any_disk = record {
        geometry = IfOk-weaker result _ _ (λ registry usable. look.geometry) admitted.usable;
        usable = admitted.usable;
        unheld = admitted.unheld;
        refusals = refusals;
        device = device_since facts c.args.disk store.disk calls result admitted.device;
        untouched = untouched_since facts c.args.disk look.geometry result refusals;
        calls = more_calls calls admitted.calls;
      };
    }
