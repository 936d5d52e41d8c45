use Rattle.std.proofs.Common.{◌≡◌, ◌∙◌, ◌+◌, true, false, subst, sym, ap, if◌then◌else◌}
use Rattle.std.specs.Prelude.{◌==◌}
use Rattle.std.proofs.lemmas.Bool.{false≢true}
use Rattle.sector_disk.specs.CallCount.{calls_failed}
use Rattle.sector_disk.specs.Disk.{LeavesNoMore, LeavesNowAlone}
use Rattle.sector_disk.specs.Memory.{memory_facts}
use Rattle.file_disk.proofs.MemoryFiles.{AfterSync, from_to, works, file_sync_ok, file_sync_err}
use Rattle.file_disk.proofs.memory_file.MemoryFileSectorFile.sync.Goals as goal
use Rattle.file_disk.proofs.memory_file.MemoryFileSectorFile.sync.Goals.{then-outcome, else-outcome}

pub returns-in-Ok-clause-honest : goal.returns-in-Ok-clause-honest
returns-in-Ok-clause-honest c honest =
    let old = c.args.self.now in
    let new = c.end_call.new.self in
    let begun = c.begin_call-outcome.ensures in
    let ended = c.in-Ok.ensures in
    let settled = c.sync_if.ensures in
    let passes : c.begin_call-outcome.result.fails ≡ false = sym ended.err in
    let after : AfterSync c.begin_call-outcome.new.self c.sync_if.new.medium c.begin_call-outcome.new.self.sync_failed c.if-outcome.self = elim c.if-outcome.branch [
      | then-outcome w ↦ absurd (false≢true (sym passes ∙ w.if-outcome.true))
      | else-outcome w ↦ record { past = ap (λ f. f.past.items) w.self-is; medium = ap (λ f. f.medium) w.self-is; calls = ap (λ f. f.calls) w.self-is; sync_failed = ap (λ f. f.sync_failed) w.self-is }
    ] in
    let fewer : LeavesNoMore (memory_facts old.medium) (memory_facts new.medium) = from_to (λ m m'. LeavesNoMore (memory_facts m) (memory_facts m')) begun.medium (ended.medium ∙ after.medium) settled.stop in
    let now : (memory_facts new.medium).now ≡ (memory_facts old.medium).now = from_to (λ m m'. (memory_facts m').now ≡ (memory_facts m).now) begun.medium (ended.medium ∙ after.medium) settled.now in
    let sectors : (memory_facts new.medium).sectors ≡ (memory_facts old.medium).sectors = from_to (λ m m'. (memory_facts m').sectors ≡ (memory_facts m).sectors) begun.medium (ended.medium ∙ after.medium) settled.sectors in
    file_sync_ok old new (ended.past ∙ after.past ∙ begun.past) sectors tt fewer now (ended.sync_failed ∙ after.sync_failed ∙ begun.sync_failed)
    (subst (λ n. calls_failed new.calls ≡ (if n == 0 then calls_failed c.if-outcome.self.calls + 1 else calls_failed c.if-outcome.self.calls)) ended.ok ended.failures ∙ ap calls_failed (after.calls ∙ begun.calls))
    (λ was. subst (λ m. LeavesNowAlone (memory_facts m)) (sym (ended.medium ∙ after.medium))
    (settled.done (c.does_work-works.ensures ∙ works c.begin_call-outcome.new.self c.begin_call-outcome.result (begun.sync_failed ∙ was) passes)))

pub returns-in-Err-clause-honest : goal.returns-in-Err-clause-honest
returns-in-Err-clause-honest c honest =
    let old = c.args.self.now in
    let new = c.end_call.new.self in
    let begun = c.begin_call-outcome.ensures in
    let ended = c.in-Err.ensures in
    let settled = c.sync_if.ensures in
    let fails : c.begin_call-outcome.result.fails ≡ true = sym ended.err in
    let after : AfterSync c.begin_call-outcome.new.self c.sync_if.new.medium true c.if-outcome.self = elim c.if-outcome.branch [
      | then-outcome w ↦ record { past = ap (λ f. f.past.items) w.self-is; medium = ap (λ f. f.medium) w.self-is; calls = ap (λ f. f.calls) w.self-is; sync_failed = ap (λ f. f.sync_failed) w.self-is }
      | else-outcome w ↦ absurd (false≢true (sym w.if-outcome.false ∙ fails))
    ] in
    let fewer : LeavesNoMore (memory_facts old.medium) (memory_facts new.medium) = from_to (λ m m'. LeavesNoMore (memory_facts m) (memory_facts m')) begun.medium (ended.medium ∙ after.medium) settled.stop in
    let sectors : (memory_facts new.medium).sectors ≡ (memory_facts old.medium).sectors = from_to (λ m m'. (memory_facts m').sectors ≡ (memory_facts m).sectors) begun.medium (ended.medium ∙ after.medium) settled.sectors in
    file_sync_err old new (ended.past ∙ after.past ∙ begun.past) sectors _ fewer (ended.sync_failed ∙ after.sync_failed) (ended.failures ∙ ap (λ calls. calls_failed calls + 1) (after.calls ∙ begun.calls))
