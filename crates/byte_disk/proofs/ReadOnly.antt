-- Reading a disk that can't be changed never fails.
use Rattle.std.proofs.Common.{◌≡◌, ⊎_elim, ℕ, zero, suc, ◌+◌, List, [], ◌∷◌, ◌++◌, refl, sym, ◌∙◌, ap, arith}
use Rattle.std.specs.Prelude.{replicate}
use Rattle.sector_disk.specs.Disk.{Logged, Wrote, Synced, MayAddSync}
use Rattle.byte_disk.specs.declared.read_only.ReadOnlyDisk.{ReadOnlyDisk}
use Rattle.byte_disk.specs.ReadOnlyDisk.{read_only_facts}

-- the number of writes in a log
abbrev writes : List Logged → ℕ
writes [] = 0
writes (Wrote ∷ log) = writes log + 1
writes (Synced ∷ log) = writes log

writes_alone : (n : ℕ) → writes (replicate n Wrote) ≡ n
writes_alone zero = refl
writes_alone (suc n) = omega (arith, writes_alone n)

writes_sync : (log : List Logged) → writes (log ++ Synced ∷ []) ≡ writes log
writes_sync [] = refl
writes_sync (Wrote ∷ log) = omega (arith, writes_sync log)
writes_sync (Synced ∷ log) = writes_sync log

-- if the disk was asked to write nothing, no call failed
pub no_failure : (old new : ReadOnlyDisk) → MayAddSync (read_only_facts old).log (read_only_facts new).log
    → (read_only_facts new).failures ≡ (read_only_facts old).failures
no_failure old new may =
    sym (writes_alone (read_only_facts new).failures)
    ∙ ⊎_elim (λ same. ap writes same) (λ more. ap writes more ∙ writes_sync (read_only_facts old).log) may.either
    ∙ writes_alone (read_only_facts old).failures
