-- Laws about a disk that can't be changed, which hold at any moment.
use Rattle.std.proofs.Common.{[], refl, subst, sym}
use Rattle.std.proofs.lemmas.List.Elements.{All-get_or}
use Rattle.sector_disk.specs.Disk.{IsWhole, HoldsNow, HasWholeSectors}
use Rattle.byte_disk.specs.declared.read_only.ReadOnlyDisk.{ReadOnlyDisk}
use Rattle.byte_disk.specs.ReadOnlyDisk.{read_only_facts}

-- The contents that reads of a read-only disk return are one of the mixtures.
pub read_only_holds : (disk : ReadOnlyDisk) → HoldsNow (read_only_facts disk)
read_only_holds disk = record { size = refl; each = λ k lt. refl }

-- The sectors of a read-only disk are whole.
pub read_only_whole : (disk : ReadOnlyDisk) → HasWholeSectors (read_only_facts disk)
read_only_whole disk =
    record {
      now = λ k lt. All-get_or IsWhole disk.start.now k [] lt disk.whole;
      left = λ u k c le lt left. subst IsWhole (sym left) (All-get_or IsWhole disk.start.now k [] lt disk.whole);
    }
