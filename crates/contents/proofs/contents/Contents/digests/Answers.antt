use Rattle.std.proofs.Common.{◌≡◌, ◌<◌, ◌≤◌, ◌+◌, length, All, sym, subst, arith}
use Rattle.std.specs.Prelude.{is_none}
use Rattle.std.proofs.lemmas.List.Elements.{All-nil, All-push}
use Rattle.sector_disk.proofs.Moments.{exactly_none, exactly_at_most}
use Rattle.store.specs.Opened.{IsAt}
use Rattle.store.proofs.IsReadLemmas.{read_none, read_more}
use Rattle.contents.specs.Digest.{IsDigestOfSome}
use Rattle.contents.proofs.LookedAt.{SeenSoFar, none_seen, one_seen, some_calls, all_counted, all_calls}
use Rattle.contents.proofs.Unseen.{IsDigestOf, no_digest}
use Rattle.contents.proofs.contents.Contents.digests.Goals as goal

pub returns-in_err-digest-clause-read : goal.returns-in_err-digest-clause-read
returns-in_err-digest-clause-read g c = read_more c.loop-position.invariant.0.read c.digest_at.ensures.read

pub returns-in_err-digest-clause-calls : goal.returns-in_err-digest-clause-calls
returns-in_err-digest-clause-calls g c =
    let lt : c.loop-position.position < length c.args.self.now.entries =
    subst (λ store. c.loop-position.position < length store.entries) c.self.view_is
    (omega (arith, c.loop-position-test.true, c.count-position-end.ensures.value)) in
    some_calls IsDigestOf is_none c.digest_at.new.self lt c.loop-position.invariant.0 c.digest_at.ensures.calls

pub loop-position-preserved : goal.loop-position-preserved
loop-position-preserved g c =
    let lt : c.loop-position.position < length c.args.self.now.entries =
    subst (λ store. c.loop-position.position < length store.entries) c.self.view_is
    (omega (arith, c.loop-position-test.true, c.count-position-end.ensures.value)) in (
      subst (SeenSoFar IsDigestOf is_none g.D.Disk.facts c.args.self.now c.digest_at.new.self (c.loop-position.position + 1)) (sym c.push_reserved.ensures.items)
          (one_seen IsDigestOf is_none c.in_ok-digest.digest lt c.loop-position.invariant.0 c.digest_at.ensures.read c.in_ok-digest.ensures.digest (λ h. c.in_ok-digest.ensures.device (no_digest c.in_ok-digest.digest h)) c.digest_at.ensures.calls),
      omega (arith, c.push_reserved.ensures.len, c.loop-position.invariant.1),
      omega (arith, c.push_reserved.ensures.capacity, c.loop-position.invariant.2),
      subst (All IsDigestOfSome) (sym c.push_reserved.ensures.items) (All-push IsDigestOfSome c.loop-position.digests.items c.in_ok-digest.digest c.loop-position.invariant.3 c.in_ok-digest.ensures.some),
    )

pub returns-clause-digests : goal.returns-clause-digests
returns-clause-digests g c s at i lt d =
    let here = subst (λ store. IsAt g.D.Disk.facts store s) (sym c.self.view_is) at in
    c.loop-position.invariant.0.each s at i (omega (arith, lt, c.loop-position-test.false, c.count-position-end.ensures.state s here)) d

pub returns-in_err-digests-clause-read : goal.returns-in_err-digests-clause-read
returns-in_err-digests-clause-read g c = read_none c.args.self.now

pub returns-in_err-digests-clause-calls : goal.returns-in_err-digests-clause-calls
returns-in_err-digests-clause-calls g c = exactly_at_most (exactly_none (g.D.Disk.facts c.args.self.now.disk)) (omega arith)

pub loop-position-init : goal.loop-position-init
loop-position-init g c = (
  subst (SeenSoFar IsDigestOf is_none g.D.Disk.facts c.args.self.now c.args.self.now 0) (sym c.in_ok-digests.ensures.items) (none_seen IsDigestOf is_none c.args.self.now),
  c.in_ok-digests.ensures.len,
  omega (arith, c.in_ok-digests.ensures.capacity, c.count.ensures.value, c.count-position-end.ensures.value),
  subst (All IsDigestOfSome) (sym c.in_ok-digests.ensures.items) (All-nil IsDigestOfSome),
)

pub returns-clause-all : goal.returns-clause-all
returns-clause-all g c = all_counted IsDigestOf is_none c.loop-position.invariant.0
    (subst (λ store. length store.entries ≡ c.loop-position.position) c.self.view_is
    (omega (arith, c.loop-position-test.false, c.loop-position.auto.position-end, c.count-position-end.ensures.value)))

pub returns-clause-calls : goal.returns-clause-calls
returns-clause-calls g c = all_calls IsDigestOf is_none c.loop-position.invariant.0
    (subst (λ store. length store.entries ≤ c.loop-position.position) c.self.view_is
    (omega (arith, c.loop-position-test.false, c.count-position-end.ensures.value)))

pub returns-clause-read : goal.returns-clause-read
returns-clause-read g c = c.loop-position.invariant.0.read

pub returns-clause-device : goal.returns-clause-device
returns-clause-device g c = c.loop-position.invariant.0.failures

pub returns-clause-some : goal.returns-clause-some
returns-clause-some g c = c.loop-position.invariant.3
