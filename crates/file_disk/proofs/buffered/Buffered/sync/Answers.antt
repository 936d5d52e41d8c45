use Rattle.std.proofs.Common.{◌≡◌, ◌+◌, Bool, true, false, if◌then◌else◌, inr, refl, is_ok, sym, ap, ◌∙◌, arith}
use Rattle.sector_disk.specs.Disk.{sector}
use Rattle.file_disk.proofs.Buffers.{still_given, within_synced}
use Rattle.file_disk.proofs.Replies.{at_ok, err_is}
use Rattle.file_disk.proofs.buffered.Buffered.sync.Goals as goal

pub returns-then-is_ok-clause-ok : goal.returns-then-is_ok-clause-ok
returns-then-is_ok-clause-ok g c honest =
    let self = c.args.self.now in
    let facts = g.F.SectorFile.facts in
    let mid = facts c.write_back.new.self.file in
    let given = still_given self c.check_length.new.self c.write_back.new.self (c.in_ok-check_length.ensures.ok honest) c.check_length.ensures.write_buffer c.if-self.false (c.in_ok-write_back.ensures.ok honest) in
    let step = c.sync.ensures.honest honest in
    let ok : is_ok c.sync.result ≡ true = sym c.is_ok.ensures.value ∙ c.if-is_ok.true in
    let trusted = c.write_back.new.self.trusted honest c.in_ok-write_back.ensures.failed in
    record {
      within = within_synced self mid (facts c.sync.new.self) c.sync.result given.within step;
      shown = λ k. ap (λ reads. sector reads k) (at_ok c.sync.result ok step.now trusted) ∙ given.shown k;
      alone = λ k content has. at_ok c.sync.result ok step.alone trusted k content has
          ∙ ap (λ reads. sector reads k) (at_ok c.sync.result ok step.now trusted) ∙ given.shown k;
    }

pub returns-clause-err : goal.returns-clause-err
returns-clause-err g c honest =
    let self = c.args.self.now in
    let facts = g.F.SectorFile.facts in
    let mid = facts c.write_back.new.self.file in
    let given = still_given self c.check_length.new.self c.write_back.new.self (c.in_ok-check_length.ensures.ok honest) c.check_length.ensures.write_buffer c.if-self.false (c.in_ok-write_back.ensures.ok honest) in
    let step = c.sync.ensures.honest honest in
    let err : is_ok c.sync.result ≡ false = sym c.is_ok.ensures.value ∙ c.if-is_ok.false in
    let more = step.call.failures ∙ ap (λ (b : Bool). if b then mid.failures + 1 else mid.failures) (err_is c.sync.result err) in
    record {
      within = within_synced self mid (facts c.sync.new.self) c.sync.result given.within step;
      cause = inr (omega (arith, given.within.failures, more));
    }

pub returns-clause-failed : goal.returns-clause-failed
returns-clause-failed g c = refl
