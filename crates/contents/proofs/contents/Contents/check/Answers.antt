use Rattle.std.proofs.Common.{◌≡◌, ◌<◌, ◌≤◌, ◌+◌, length, take, sum_by, inl, inr, sym, subst, arith, ⊎_elim}
use Rattle.std.proofs.lemmas.Result.{err_from_is_err_and}
use Rattle.sector_disk.specs.Disk.{AreCallsAtMost}
use Rattle.store.specs.IsRead.{file_sectors}
use Rattle.sector_disk.proofs.Moments.{exactly_none, exactly_at_most}
use Rattle.store.specs.Opened.{IsAt}
use Rattle.store.proofs.IsReadLemmas.{read_none, read_more}
use Rattle.contents.specs.Finding.{IsFinding, is_unreadable}
use Rattle.contents.proofs.LookedAt.{SeenSoFar, none_seen, more_calls, one_seen, some_calls, all_counted, all_calls}
use Rattle.contents.proofs.Unseen.{no_finding}
use Rattle.contents.proofs.contents.Contents.check.Goals as goal

pub returns-in_err-finding-clause-read : goal.returns-in_err-finding-clause-read
returns-in_err-finding-clause-read g c = read_more c.loop-position.invariant.0.read c.check_at.ensures.read

pub returns-in_err-finding-clause-calls : goal.returns-in_err-finding-clause-calls
returns-in_err-finding-clause-calls g c =
    let lt : c.loop-position.position < length c.args.self.now.entries =
    subst (λ store. c.loop-position.position < length store.entries) c.self.view_is
    (omega (arith, c.loop-position-test.true, c.count-position-end.ensures.value)) in
    some_calls IsFinding is_unreadable c.check_at.new.self lt c.loop-position.invariant.0 c.check_at.ensures.calls

pub loop-position-preserved : goal.loop-position-preserved
loop-position-preserved g c =
    let lt : c.loop-position.position < length c.args.self.now.entries =
    subst (λ store. c.loop-position.position < length store.entries) c.self.view_is
    (omega (arith, c.loop-position-test.true, c.count-position-end.ensures.value)) in (
      subst (SeenSoFar IsFinding is_unreadable g.D.Disk.facts c.args.self.now c.check_at.new.self (c.loop-position.position + 1)) (sym c.push_reserved.ensures.items)
          (one_seen IsFinding is_unreadable c.in_ok-finding.finding lt c.loop-position.invariant.0 c.check_at.ensures.read c.in_ok-finding.ensures.finding (λ h. c.in_ok-finding.ensures.device (no_finding c.in_ok-finding.finding h)) c.check_at.ensures.calls),
      omega (arith, c.push_reserved.ensures.len, c.loop-position.invariant.1),
      omega (arith, c.push_reserved.ensures.capacity, c.loop-position.invariant.2),
    )

pub returns-clause-findings : goal.returns-clause-findings
returns-clause-findings g c s at i lt d =
    let here = subst (λ store. IsAt g.D.Disk.facts store s) (sym c.self.view_is) at in
    c.loop-position.invariant.0.each s at i (omega (arith, lt, c.loop-position-test.false, c.count-position-end.ensures.state s here)) d

pub returns-in_err-findings-clause-read : goal.returns-in_err-findings-clause-read
returns-in_err-findings-clause-read g c = read_none c.args.self.now

pub returns-in_err-findings-clause-calls : goal.returns-in_err-findings-clause-calls
returns-in_err-findings-clause-calls g c = exactly_at_most (exactly_none (g.D.Disk.facts c.args.self.now.disk)) (omega arith)

pub loop-position-init : goal.loop-position-init
loop-position-init g c = (
  subst (SeenSoFar IsFinding is_unreadable g.D.Disk.facts c.args.self.now c.args.self.now 0) (sym c.in_ok-findings.ensures.items) (none_seen IsFinding is_unreadable c.args.self.now),
  c.in_ok-findings.ensures.len,
  omega (arith, c.in_ok-findings.ensures.capacity, c.count.ensures.value, c.count-position-end.ensures.value),
)

pub returns-clause-all : goal.returns-clause-all
returns-clause-all g c = all_counted IsFinding is_unreadable c.loop-position.invariant.0
    (subst (λ store. length store.entries ≡ c.loop-position.position) c.self.view_is
    (omega (arith, c.loop-position-test.false, c.loop-position.auto.position-end, c.count-position-end.ensures.value)))

pub returns-clause-calls : goal.returns-clause-calls
returns-clause-calls g c = all_calls IsFinding is_unreadable c.loop-position.invariant.0
    (subst (λ store. length store.entries ≤ c.loop-position.position) c.self.view_is
    (omega (arith, c.loop-position-test.false, c.count-position-end.ensures.value)))

pub returns-clause-read : goal.returns-clause-read
returns-clause-read g c = c.loop-position.invariant.0.read

pub returns-clause-device : goal.returns-clause-device
returns-clause-device g c = c.loop-position.invariant.0.failures

pub returns-in_err-findings-clause-memory : goal.returns-in_err-findings-clause-memory
returns-in_err-findings-clause-memory g c s at =
    rw (err_from_is_err_and c.from_residual.result c.from_residual.ensures.1).1 (inl (exactly_none (g.D.Disk.facts c.args.self.now.disk)))

pub returns-in_err-finding-clause-memory : goal.returns-in_err-finding-clause-memory
returns-in_err-finding-clause-memory g c s at =
    let so_far = c.loop-position.invariant.0 in
    let here = subst (λ store. IsAt g.D.Disk.facts store s) (sym c.self.view_is) at in
    let start = g.D.Disk.facts c.args.self.now.disk in
    let lt : c.loop-position.position < length c.args.self.now.entries =
    subst (λ store. c.loop-position.position < length store.entries) c.self.view_is
    (omega (arith, c.loop-position-test.true, c.count-position-end.ensures.value)) in
    rw (err_from_is_err_and c.from_residual-in_err-finding.result c.from_residual-in_err-finding.ensures.1).1 (inr (
      c.loop-position.position,
      omega (arith, c.loop-position-test.true, c.count-position-end.ensures.state s here),
      ⊎_elim
          (λ same. inl (subst (λ store. AreCallsAtMost (sum_by file_sectors (take c.loop-position.position c.args.self.now.entries)) start (g.D.Disk.facts store.disk)) (sym same) so_far.calls))
          (λ needs. inr (needs, more_calls IsFinding is_unreadable c.check_at.new.self lt so_far c.check_at.ensures.calls))
          (c.in_err-finding.ensures.memory s (so_far.read.same s at)),
    ))
