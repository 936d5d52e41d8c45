use Rattle.std.proofs.Common.{◌≡◌, ◌≢◌, ◌⊎◌, inl, inr, ◌+◌, length, sym, subst, ◌∙◌, arith}
use Rattle.std.proofs.lemmas.Result.{err_from_is_err_and, IfOk-weaker, IfErr-weaker}
use Rattle.sector_disk.specs.Disk.{Mixture, LeavesOnly, AreCallsExactly, AreCallsAtMost}
use Rattle.sector_disk.proofs.Moments.{weaken, at_most_sum}
use Rattle.store.specs.Stands.{Stands, StandsOld, catalogues_of}
use Rattle.store.specs.declared.refusal.StoreRefusal.TheVariants.{Device}
use Rattle.store.specs.Looked.{seen}
use Rattle.store.specs.Opened.{IsAt}
use Rattle.store.specs.Step.{refusal_of_upgrade, answer_of, IsUpgradeAnswer}
use Rattle.store.specs.Taken.{IsRelisted}
use Rattle.store.specs.Upgraded.{upgraded, IsUpgradeOf, IsRelistedFrom}
use Rattle.states.specs.State.{State}
use Rattle.store.proofs.Upgrades.{as_committed, as_looked, seen_current, current_at, seen_old, old_at, current_found, old_found, sectors_seen, relisted_from, relisted_calls, then_committed}
use Rattle.store.proofs.store.Store.upgrade.Goals as goal

pub returns-in_err-store-clause-stands : goal.returns-in_err-store-clause-stands
returns-in_err-store-clause-stands g c honest s stands =
    let p = err_from_is_err_and c.from_residual.result c.from_residual.ensures.1 in
    rw (p.1, p.2) (c.in_err-store.ensures.stands honest s stands)

pub returns-in_err-store-clause-answer : goal.returns-in_err-store-clause-answer
returns-in_err-store-clause-answer g c honest s stands =
    let p = err_from_is_err_and c.from_residual.result c.from_residual.ensures.1 in
    rw (p.1, p.2) (as_looked (refusal_of_upgrade (g.D.Disk.facts c.args.disk).sectors s) c.in_err-store.field-0.0.0 (c.in_err-store.ensures.stands_old honest s stands))

pub returns-in-Current-clause-any_moment : goal.returns-in-Current-clause-any_moment
returns-in-Current-clause-any_moment g c honest s stands =
    absurd (seen_current g.D.Disk.facts c.in_ok-store.field-0 c.in-Current.store c.in-Current.is s (c.in_ok-store.ensures.stands_old honest s stands))

pub returns-in-Current-clause-ok : goal.returns-in-Current-clause-ok
returns-in-Current-clause-ok g c honest =
    let found = current_found g.D.Disk.facts c.in_ok-store.field-0 c.in-Current.store (g.D.Disk.facts c.args.disk).now (c.in_ok-store.ensures.ok honest) c.in-Current.is in
    (found.0, inl (found.1, found.2))

pub returns-in-Current-clause-stands : goal.returns-in-Current-clause-stands
returns-in-Current-clause-stands g c honest s stands =
    current_at g.D.Disk.facts c.in_ok-store.field-0 c.in-Current.store c.in-Current.is s (c.in_ok-store.ensures.stands honest s stands)

pub returns-in-Current-clause-stands_old : goal.returns-in-Current-clause-stands_old
returns-in-Current-clause-stands_old g c honest s stands =
    absurd (seen_current g.D.Disk.facts c.in_ok-store.field-0 c.in-Current.store c.in-Current.is s (c.in_ok-store.ensures.stands_old honest s stands))

pub returns-in-Current-clause-answer : goal.returns-in-Current-clause-answer
returns-in-Current-clause-answer g c honest s stands =
    absurd (seen_current g.D.Disk.facts c.in_ok-store.field-0 c.in-Current.store c.in-Current.is s (c.in_ok-store.ensures.stands_old honest s stands))

pub returns-in-Current-clause-calls_old : goal.returns-in-Current-clause-calls_old
returns-in-Current-clause-calls_old g c honest s stands =
    absurd (seen_current g.D.Disk.facts c.in_ok-store.field-0 c.in-Current.store c.in-Current.is s (c.in_ok-store.ensures.stands_old honest s stands))

pub returns-in-Old-clause-any_moment : goal.returns-in-Old-clause-any_moment
returns-in-Old-clause-any_moment g c honest s stands =
    then_committed g.D.Disk.facts c.in_ok-store.field-0 c.in-Old.store (g.D.Disk.facts c.args.disk) _ s c.in-Old.is (c.in_ok-store.ensures.any_moment honest)
    (c.commit.ensures.any_moment s (old_at g.D.Disk.facts c.in_ok-store.field-0 c.in-Old.store c.in-Old.is s (c.in_ok-store.ensures.stands_old honest s stands)))

pub returns-in-Old-clause-left_alone : goal.returns-in-Old-clause-left_alone
returns-in-Old-clause-left_alone g c honest none =
    let found = old_found g.D.Disk.facts c.in_ok-store.field-0 c.in-Old.store (g.D.Disk.facts c.args.disk).now (c.in_ok-store.ensures.ok honest) c.in-Old.is in
    absurd (none found.0 found.1)

pub returns-in-Old-clause-now : goal.returns-in-Old-clause-now
returns-in-Old-clause-now g c honest none =
    let found = old_found g.D.Disk.facts c.in_ok-store.field-0 c.in-Old.store (g.D.Disk.facts c.args.disk).now (c.in_ok-store.ensures.ok honest) c.in-Old.is in
    absurd (none found.0 found.1)

pub returns-in-Old-clause-ok : goal.returns-in-Old-clause-ok
returns-in-Old-clause-ok g c honest =
    let now = (g.D.Disk.facts c.args.disk).now in
    let found = old_found g.D.Disk.facts c.in_ok-store.field-0 c.in-Old.store now (c.in_ok-store.ensures.ok honest) c.in-Old.is in
    IfOk-weaker c.commit.result (λ store. IsAt g.D.Disk.facts store (upgraded found.0)) (λ store. (s : State) × IsUpgradeOf g.D.Disk.facts store now s)
    (λ store at. (found.0, inr (found.1, at))) (c.commit.ensures.ok found.0 found.2)

pub returns-in-Old-clause-stands : goal.returns-in-Old-clause-stands
returns-in-Old-clause-stands g c honest s stands =
    absurd (seen_old g.D.Disk.facts c.in_ok-store.field-0 c.in-Old.store c.in-Old.is s (c.in_ok-store.ensures.stands honest s stands))

pub returns-in-Old-clause-stands_old : goal.returns-in-Old-clause-stands_old
returns-in-Old-clause-stands_old g c honest s stands =
    c.commit.ensures.ok s (old_at g.D.Disk.facts c.in_ok-store.field-0 c.in-Old.store c.in-Old.is s (c.in_ok-store.ensures.stands_old honest s stands))

pub returns-in-Old-clause-answer : goal.returns-in-Old-clause-answer
returns-in-Old-clause-answer g c honest s stands =
    let at = old_at g.D.Disk.facts c.in_ok-store.field-0 c.in-Old.store c.in-Old.is s (c.in_ok-store.ensures.stands_old honest s stands) in
    let same = subst (λ l. (g.D.Disk.facts (seen l).disk).sectors ≡ (g.D.Disk.facts c.args.disk).sectors) c.in-Old.is c.in_ok-store.ensures.calls.some.sectors in
    let size = sectors_seen g.D.Disk.facts c.in_ok-store.field-0 c.in-Old.store s at (g.met.D.Disk.holds_now _ at.honest) ∙ same in
    subst (λ n. IsUpgradeAnswer (refusal_of_upgrade n s) (answer_of c.commit.result)) size
    (as_committed (refusal_of_upgrade c.in-Old.store.root.sectors s) (answer_of c.commit.result) (c.commit.ensures.refused s at))

pub returns-in-Old-clause-refused : goal.returns-in-Old-clause-refused
returns-in-Old-clause-refused g c honest none =
    let found = old_found g.D.Disk.facts c.in_ok-store.field-0 c.in-Old.store (g.D.Disk.facts c.args.disk).now (c.in_ok-store.ensures.ok honest) c.in-Old.is in
    absurd (none found.0 found.1)

pub returns-in-Old-clause-calls_current : goal.returns-in-Old-clause-calls_current
returns-in-Old-clause-calls_current g c honest s stands =
    absurd (seen_old g.D.Disk.facts c.in_ok-store.field-0 c.in-Old.store c.in-Old.is s (c.in_ok-store.ensures.stands honest s stands))

pub returns-in-Current-clause-placed_old : goal.returns-in-Current-clause-placed_old
returns-in-Current-clause-placed_old g c honest s stands =
    absurd (seen_current g.D.Disk.facts c.in_ok-store.field-0 c.in-Current.store c.in-Current.is s (c.in_ok-store.ensures.stands_old honest s stands))

pub returns-in-Old-clause-placed_old : goal.returns-in-Old-clause-placed_old
returns-in-Old-clause-placed_old g c honest s stands =
    let now = (g.D.Disk.facts c.args.disk).now in
    let at = old_at g.D.Disk.facts c.in_ok-store.field-0 c.in-Old.store c.in-Old.is s (c.in_ok-store.ensures.stands_old honest s stands) in
    let same = subst (λ l. (g.D.Disk.facts (seen l).disk).now ≡ now) c.in-Old.is (c.in_ok-store.ensures.now honest) in
    IfOk-weaker c.commit.result (IsRelisted c.in-Old.store) (IsRelistedFrom now s)
    (relisted_from g.D.Disk.facts c.in-Old.store s at (g.met.D.Disk.holds_now _ at.honest) now same) c.commit.ensures.placed

pub returns-in_err-store-clause-any_moment : goal.returns-in_err-store-clause-any_moment
returns-in_err-store-clause-any_moment g c honest s stands =
    let p = err_from_is_err_and c.from_residual.result c.from_residual.ensures.1 in
    let start = g.D.Disk.facts c.args.disk in
    rw (p.1, p.2) (weaken (Mixture start) (λ m. Mixture start m ⊎ StandsOld m s ⊎ Stands m (upgraded s)) (λ m mixture. inl mixture) (c.in_err-store.ensures.any_moment honest))

pub returns-in-Old-clause-unwritten : goal.returns-in-Old-clause-unwritten
returns-in-Old-clause-unwritten g c honest =
    let facts = g.D.Disk.facts in
    let start = facts c.args.disk in
    let leaves = subst (λ l. LeavesOnly start (facts (seen l).disk) (Mixture start)) c.in-Old.is (c.in_ok-store.ensures.any_moment honest) in
    IfErr-weaker c.commit.result (λ e. e.0 ≢ Device → e.1 ≡ c.in-Old.store.disk) (λ e. e.0 ≢ Device → LeavesOnly start (facts e.1) (Mixture start))
    (λ e untouched not. subst (λ d. LeavesOnly start (facts d) (Mixture start)) (sym (untouched not)) leaves) c.commit.ensures.untouched

pub returns-in-Old-clause-now_refused : goal.returns-in-Old-clause-now_refused
returns-in-Old-clause-now_refused g c honest =
    let facts = g.D.Disk.facts in
    let now = (facts c.args.disk).now in
    let same = subst (λ l. (facts (seen l).disk).now ≡ now) c.in-Old.is (c.in_ok-store.ensures.now honest) in
    IfErr-weaker c.commit.result (λ e. e.0 ≢ Device → e.1 ≡ c.in-Old.store.disk) (λ e. e.0 ≢ Device → (facts e.1).now ≡ now)
    (λ e untouched not. subst (λ d. (facts d).now ≡ now) (sym (untouched not)) same) c.commit.ensures.untouched

pub returns-in-Old-clause-calls_old : goal.returns-in-Old-clause-calls_old
returns-in-Old-clause-calls_old g c honest s stands =
    let facts = g.D.Disk.facts in
    let start = facts c.args.disk in
    let at = old_at facts c.in_ok-store.field-0 c.in-Old.store c.in-Old.is s (c.in_ok-store.ensures.stands_old honest s stands) in
    let looked = subst (λ l. AreCallsExactly (3 + length (catalogues_of (seen l).root) + length (seen l).entries) start (facts (seen l).disk)) c.in-Old.is c.in_ok-store.ensures.all_calls in
    relisted_calls facts start c.in-Old.store looked (at.stands _ (g.met.D.Disk.holds_now _ at.honest)).of_version c.commit.result c.commit.ensures.placed c.commit.ensures.all_calls

pub returns-in-Old-clause-calls : goal.returns-in-Old-clause-calls
returns-in-Old-clause-calls g c =
    let facts = g.D.Disk.facts in
    let looked = subst (λ l. AreCallsAtMost 2083 (facts c.args.disk) (facts (seen l).disk)) c.in-Old.is c.in_ok-store.ensures.calls in
    at_most_sum looked c.commit.ensures.calls (omega (arith, c.commit.ensures.few))
