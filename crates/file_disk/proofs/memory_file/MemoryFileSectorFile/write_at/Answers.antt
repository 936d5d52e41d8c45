use Rattle.std.proofs.Common.{◌≡◌, ◌∙◌, ◌+◌, ◌≤◌, ℕ, List, [], length, take, subst, ap, arith, if◌then◌else◌}
use Rattle.std.specs.Prelude.{◌==◌, min}
use Rattle.std.proofs.lemmas.List.{get_or-take, length-take}
use Rattle.sector_disk.specs.CallCount.{calls_failed}
use Rattle.sector_disk.specs.declared.memory.Memory.{Memory}
use Rattle.sector_disk.specs.Disk.{Sector}
use Rattle.sector_disk.specs.Memory.{memory_facts}
use Rattle.file_disk.specs.Medium.{HasWritten, IsWholeUnlessFailed}
use Rattle.file_disk.specs.MemoryFile.{next_outcome}
use Rattle.file_disk.specs.SectorFile.{moved}
use Rattle.file_disk.proofs.Media.{written_of}
use Rattle.file_disk.proofs.MemoryFiles.{from_to, file_write}
use Rattle.file_disk.proofs.memory_file.MemoryFileSectorFile.write_at.Goals as goal

-- a write of some of the first `most` given sectors is a write of some of all given sectors
put_written : (old new : Memory) (at : ℕ) (given : List Sector) (most count : ℕ) → count ≤ length (take most given) → HasWritten at (take most given) count (memory_facts old) (memory_facts new)
    → HasWritten at given count (memory_facts old) (memory_facts new)
put_written old new at given most count few written =
    written_of at given (take most given) count (memory_facts old) (memory_facts new) (λ i lt. get_or-take most given i [] (omega (arith, lt, few, length-take most given))) written

pub returns-clause-honest : goal.returns-clause-honest
returns-clause-honest c honest =
    let old = c.args.self.now in
    let new = c.end_call.new.self in
    let begun = c.begin_call-outcome.ensures in
    let ended = c.end_call.ensures in
    let written : HasWritten c.args.at c.args.from.now c.put-count.result (memory_facts old.medium) (memory_facts new.medium) =
    from_to (λ m m'. HasWritten c.args.at c.args.from.now c.put-count.result (memory_facts m) (memory_facts m')) begun.medium ended.medium
    (put_written c.begin_call-outcome.new.self.medium c.put-count.new.medium c.args.at c.args.from.now c.min-most.result c.put-count.result c.put-count.ensures.few c.put-count.ensures.written) in
    let fits : c.put-count.result ≤ length c.args.from.now = omega (arith, c.put-count.ensures.few, length-take c.min-most.result c.args.from.now) in
    file_write old new (ended.past ∙ begun.past) written.sectors c.args.at c.args.from.now c.put-count.result c.end_call.result ended.few fits written (ended.sync_failed ∙ begun.sync_failed)
    (subst (λ calls. calls_failed new.calls ≡ (if moved c.end_call.result == 0 then calls_failed calls + 1 else calls_failed calls)) begun.calls ended.failures)

pub returns-clause-written : goal.returns-clause-written
returns-clause-written c =
    let old = c.args.self.now in
    let begun = c.begin_call-outcome.ensures in
    let ended = c.end_call.ensures in
    let most : min c.min-most.result (length c.args.from.now) ≡ min (next_outcome old).most (length c.args.from.now) =
    omega (arith, c.min-most.ensures, ap (λ outcome. min outcome.most (length c.args.from.now)) begun.outcome) in
    let asked : length (take c.min-most.result c.args.from.now) ≡ min (next_outcome old).most (length c.args.from.now) = length-take c.min-most.result c.args.from.now ∙ most in
    record {
      count = c.put-count.result;
      few = omega (arith, c.put-count.ensures.few, asked);
      cause = from_to (λ m m'. IsWholeUnlessFailed c.put-count.result (min (next_outcome old).most (length c.args.from.now)) (memory_facts m) (memory_facts m')) begun.medium ended.medium
          (subst (λ n. IsWholeUnlessFailed c.put-count.result n (memory_facts c.begin_call-outcome.new.self.medium) (memory_facts c.put-count.new.medium)) asked c.put-count.ensures.cause);
      ok = ended.ok;
      written = from_to (λ m m'. HasWritten c.args.at c.args.from.now c.put-count.result (memory_facts m) (memory_facts m')) begun.medium ended.medium
          (put_written c.begin_call-outcome.new.self.medium c.put-count.new.medium c.args.at c.args.from.now c.min-most.result c.put-count.result c.put-count.ensures.few c.put-count.ensures.written);
    }
