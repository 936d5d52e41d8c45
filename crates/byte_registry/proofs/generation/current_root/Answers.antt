use Rattle.std.proofs.Common.{subst}
use Rattle.sector_disk.specs.Disk.{sector}
use Rattle.roots.specs.Slot.{IsSlotOf}
use Rattle.byte_disk.specs.Bytes.{sectors_in}
use Rattle.byte_registry.proofs.Generations.{same_root}
use Rattle.byte_registry.proofs.generation.current_root.Goals as goal

pub returns-in-Ok : goal.returns-in-Ok
returns-in-Ok c version root entries s by =
    let m = sectors_in c.args.disk.now in
    let chosen = c.in-Ok.ensures.ok (sector m 0) (sector m 1)
    (subst (λ l. IsSlotOf (sector l 0) c.decode_root.result) c.as_chunks.ensures.front c.decode_root.ensures.slot)
    (subst (λ l. IsSlotOf (sector l 1) c.decode_root-2.result) c.as_chunks.ensures.front c.decode_root-2.ensures.slot)
    root in
    same_root c.in-Ok.root root (chosen.1 by.intact.current)
