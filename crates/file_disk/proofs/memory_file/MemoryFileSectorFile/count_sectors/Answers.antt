use Rattle.std.proofs.Common.{◌≡◌, ◌∙◌, ◌+◌, true, false, refl, subst, ap, if◌then◌else◌}
use Rattle.std.specs.Prelude.{◌==◌}
use Rattle.sector_disk.specs.CallCount.{calls_failed}
use Rattle.sector_disk.specs.Memory.{memory_facts}
use Rattle.file_disk.proofs.MemoryFiles.{file_counted}
use Rattle.file_disk.proofs.memory_file.MemoryFileSectorFile.count_sectors.Goals as goal

pub returns-in-Ok-clause-honest : goal.returns-in-Ok-clause-honest
returns-in-Ok-clause-honest c honest =
    let begun = c.begin_call-outcome.ensures in
    let ended = c.end_call.ensures in
    let medium = ended.medium ∙ begun.medium in
    file_counted c.args.self.now c.end_call.new.self (ended.past ∙ begun.past) (ap (λ m. (memory_facts m).sectors) medium) _ false refl medium (ended.sync_failed ∙ begun.sync_failed)
    (subst (λ n. calls_failed c.end_call.new.self.calls ≡ (if n == 0 then calls_failed c.begin_call-outcome.new.self.calls + 1 else calls_failed c.begin_call-outcome.new.self.calls)) c.in-Ok.ensures.ok c.in-Ok.ensures.failures ∙ ap calls_failed begun.calls) (c.sectors.ensures ∙ ap (λ m. (memory_facts m).sectors) medium)

pub returns-in-Err-clause-honest : goal.returns-in-Err-clause-honest
returns-in-Err-clause-honest c honest =
    let begun = c.begin_call-outcome.ensures in
    let ended = c.end_call.ensures in
    let medium = ended.medium ∙ begun.medium in
    file_counted c.args.self.now c.end_call.new.self (ended.past ∙ begun.past) (ap (λ m. (memory_facts m).sectors) medium) _ true refl medium (ended.sync_failed ∙ begun.sync_failed)
    (c.in-Err.ensures.failures ∙ ap (λ calls. calls_failed calls + 1) begun.calls) tt
