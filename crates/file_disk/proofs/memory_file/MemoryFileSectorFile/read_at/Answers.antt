use Rattle.std.proofs.Common.{◌≡◌, ◌∙◌, ◌+◌, ◌<◌, [], length, take, subst, ap, arith, if◌then◌else◌}
use Rattle.std.specs.Prelude.{◌==◌}
use Rattle.std.proofs.lemmas.List.{get_or_append_left, length-take}
use Rattle.sector_disk.specs.CallCount.{calls_failed}
use Rattle.sector_disk.specs.Disk.{sector}
use Rattle.sector_disk.specs.Memory.{memory_facts}
use Rattle.file_disk.specs.Medium.{IsSameMedium}
use Rattle.file_disk.specs.SectorFile.{moved}
use Rattle.file_disk.proofs.MemoryFiles.{from_to, file_read}
use Rattle.file_disk.proofs.memory_file.MemoryFileSectorFile.read_at.Goals as goal

pub returns-clause-honest : goal.returns-clause-honest
returns-clause-honest c honest =
    let old = c.args.self.now in
    let new = c.end_call.new.self in
    let begun = c.begin_call-outcome.ensures in
    let ended = c.end_call.ensures in
    let still : IsSameMedium (memory_facts old.medium) (memory_facts new.medium) =
    from_to (λ m m'. IsSameMedium (memory_facts m) (memory_facts m')) begun.medium ended.medium c.get.ensures.still in
    file_read old new (ended.past ∙ begun.past) still.sectors c.args.at _ c.end_call.result still (ended.sync_failed ∙ begun.sync_failed)
    (subst (λ calls. calls_failed new.calls ≡ (if moved c.end_call.result == 0 then calls_failed calls + 1 else calls_failed calls)) begun.calls ended.failures)
    (λ i lt.
    let asked : i < length (take c.min-count.result c.args.into.now) = omega (arith, lt, ended.few, c.min-count.ensures, length-take c.min-count.result c.args.into.now) in
    get_or_append_left c.get.new.into _ [] i (omega (arith, asked, c.get.auto.into)) ∙ c.get.ensures.read i asked ∙ ap (λ m. sector (memory_facts m).now (c.args.at + i)) begun.medium)
