use Rattle.std.proofs.Common.{◌≡◌, ◌<◌, ◌≤◌, length, take, sum_by, sym, subst, ◌∙◌, arith}
use Rattle.std.proofs.lemmas.List.{take_all}
use Rattle.sector_disk.specs.Disk.{AreCallsExactly}
use Rattle.std.proofs.lemmas.Result.{err_from_is_err_and}
use Rattle.sector_disk.proofs.Moments.{exactly_none}
use Rattle.store.proofs.IsReadLemmas.{read_more, read_none}
use Rattle.registry.specs.inside.Reading.{IsReadRefusal}
use Rattle.registry.proofs.Files.{one_admitted, one_refused, all_admitted, refused_more}
use Rattle.store.specs.IsRead.{file_sectors}
use Rattle.registry.proofs.admit.admit_files.Goals as goal

pub returns-in_err-buffer-clause-read : goal.returns-in_err-buffer-clause-read
returns-in_err-buffer-clause-read g c = read_more c.loop-position.invariant.read c.admit_at.ensures.read

pub returns-in_err-buffer-clause-damaged : goal.returns-in_err-buffer-clause-damaged
returns-in_err-buffer-clause-damaged g c s at =
    let p = err_from_is_err_and c.from_residual.result c.from_residual.ensures.1 in
    let lt : c.loop-position.position < length s.libraries = omega (arith, c.loop-position-test.true, c.count-position-end.ensures.state s at) in
    rw p.1 (λ is all. one_refused s c.loop-position.position lt (c.in_err-buffer.ensures.damaged s (c.loop-position.invariant.read.same s at) (sym p.2 ∙ is)) all)

pub loop-position-preserved : goal.loop-position-preserved
loop-position-preserved g c =
    let lt : c.loop-position.position < length c.args.store.now.entries = omega (arith, c.loop-position-test.true, c.count-position-end.ensures.value) in
    one_admitted lt c.loop-position.invariant c.admit_at.ensures.read (λ s at. c.in_ok-buffer.ensures.ok s at) (λ d. c.in_ok-buffer.ensures.all_calls d)

pub returns-clause-ok : goal.returns-clause-ok
returns-clause-ok g c s at =
    let le : length s.libraries ≤ c.loop-position.position = omega (arith, c.loop-position-test.false, c.count-position-end.ensures.state s at) in
    all_admitted c.loop-position.invariant s at le

pub returns-in_err-buffer-clause-refusals : goal.returns-in_err-buffer-clause-refusals
returns-in_err-buffer-clause-refusals g c =
    let p = err_from_is_err_and c.from_residual.result c.from_residual.ensures.1 in
    rw p.1 (refused_more c.admit_at.new.store p.0 c.loop-position.invariant.read
    (subst (IsReadRefusal g.D.Disk.facts c.loop-position.store c.admit_at.new.store) (sym p.2) c.in_err-buffer.ensures.refusals))

pub loop-position-init : goal.loop-position-init
loop-position-init g c = record {
  read = read_none c.args.store.now;
  each = λ s at k lt. absurd (omega (arith, lt));
  calls = exactly_none (g.D.Disk.facts c.args.store.now.disk);
}

pub returns-clause-all_calls : goal.returns-clause-all_calls
returns-clause-all_calls g c =
    let facts = g.D.Disk.facts in
    let start = c.args.store.now in
    let all : take c.loop-position.position start.entries ≡ start.entries =
    take_all c.loop-position.position start.entries (omega (arith, c.loop-position-test.false, c.count-position-end.ensures.value)) in
    subst (λ entries. AreCallsExactly (sum_by file_sectors entries) (facts start.disk) (facts c.loop-position.store.disk)) all c.loop-position.invariant.calls

pub returns-clause-read : goal.returns-clause-read
returns-clause-read g c = c.loop-position.invariant.read
