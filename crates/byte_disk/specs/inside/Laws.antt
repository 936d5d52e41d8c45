-- Laws about a disk over given bytes, which hold at any moment.
use Rattle.std.proofs.Common.{[], sym, subst, arith}
use Rattle.std.proofs.lemmas.List.Elements.{All-get_or}
use Rattle.std.specs.Prelude.{take}
use Rattle.sector_disk.specs.CallCount.{calls_made}
use Rattle.sector_disk.specs.Disk.{sector, IsWhole, HoldsNow, HasWholeSectors}
use Rattle.byte_disk.specs.declared.disk.ByteDisk.{ByteDisk}
use Rattle.byte_disk.specs.Plan.{carried_out, MayBeLeft, IsWriteOn}
use Rattle.byte_disk.specs.ByteDisk.{byte_facts, steps_at}
use Rattle.byte_disk.specs.inside.Latest.{plan_in}
use Rattle.byte_disk.specs.inside.PlanLaws.{length-carried_out, carried_out_whole, writes_taken, left_whole, now_left, plan_now}
use Rattle.std.proofs.Common.{length}

-- The contents that reads of a disk over given bytes return are one of the mixtures.
pub byte_holds : (disk : ByteDisk) → HoldsNow (byte_facts disk)
byte_holds disk =
    let start = disk.start.now in
    let planned = disk.planned.items in
    record {
      size = length-carried_out start (plan_in planned);
      each = λ k lt. subst (λ steps. MayBeLeft start steps k (sector (carried_out start (plan_in planned)) k))
          (sym (plan_now planned (calls_made disk.idle)))
          (now_left start (plan_in planned) k);
    }

-- The sectors of a disk over given bytes are whole.
pub byte_whole : (disk : ByteDisk) → HasWholeSectors (byte_facts disk)
byte_whole disk =
    let start = disk.start.now in
    let steps = plan_in disk.planned.items in
    let n = length start in
    record {
      now = λ k lt. All-get_or IsWhole (carried_out start steps) k [] (omega (arith, lt, length-carried_out start steps))
          (carried_out_whole n start steps disk.whole disk.writes);
      left = λ u k c le lt left. let made = steps_at disk.planned.items u in
          left_whole n start (take made steps) k c lt disk.whole (writes_taken (IsWriteOn n) made steps disk.writes) left;
    }
