use Rattle.std.proofs.Common.{◌≡◌, ℕ, ◌<◌, ◌≤◌, ◌∷◌, length, get_or, drop}
use Rattle.sector_disk.specs.Disk.{sector}
use Rattle.sector_disk.specs.Written.{written_to}
use Rattle.sector_disk.proofs.choices.set_contents.Given as goal

abbrev pub invariant-loop-write : goal.invariant-loop-write
invariant-loop-write l =
    ((k : ℕ) → k < length l.sectors
    → sector (sector l.sectors k ∷ written_to k (drop l.write-index l.writes)) (get_or l.numbers k 0) ≡ sector (sector l.initial.sectors k ∷ written_to k l.writes) (get_or l.initial.numbers k 0))
    × ((k : ℕ) → k < length l.numbers → get_or l.numbers k 0 ≤ length (written_to k (drop l.write-index l.writes)))
