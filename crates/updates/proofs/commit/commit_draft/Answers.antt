use Rattle.std.proofs.Common.{subst}
use Rattle.std.specs.Prelude.{Result}
use Rattle.requests.specs.declared.refusal.Refusal.{Refusal}
use Rattle.updates.specs.Commit.{Commits}
use Rattle.updates.proofs.commit.commit_draft.Goals as goal

pub returns-in-Ok : goal.returns-in-Ok
returns-in-Ok g c =
    let ok = c.commit-answer in
    let e = ok.ensures in
    subst (λ (a : Result (Unit {0}) Refusal). Commits g.D.Disk.facts c.args.update a ok.result.1) c.in-Ok.is
    (record { any_moment = e.any_moment; ok = e.ok; made = e.made; held = e.held; on_any_disk = e.on_any_disk; given_up = e.given_up; entries = e.entries; same = e.same })

pub returns-in-Err : goal.returns-in-Err
returns-in-Err g c =
    let err = c.commit-answer in
    let h = err.ensures in
    subst (λ (a : Result (Unit {0}) Refusal). Commits g.D.Disk.facts c.args.update a err.result.1) c.in-Err.is
    (record { any_moment = h.any_moment; ok = h.ok; made = h.made; held = h.held; on_any_disk = h.on_any_disk; given_up = h.given_up; entries = h.entries; same = h.same })
