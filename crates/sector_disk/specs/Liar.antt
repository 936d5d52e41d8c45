-- The facts of a disk that isn't honest.
use Rattle.std.specs.Prelude.{◌≡◌, ◌+◌, ◌%◌, ℕ, List, length, replicate, slice_index_or}
use Rattle.sector_disk.specs.declared.liar.Liar.{Liar}
use Rattle.sector_disk.specs.Disk.{Sector, sector_bytes, DiskFacts}
use Rattle.sector_disk.specs.CallCount.{unknown_disk}

-- the facts of a liar, which isn't an honest disk: only its size and its calls are known
abbrev pub liar_facts : Liar → DiskFacts
liar_facts liar = unknown_disk liar.sectors liar.calls

-- the answers that a liar returns in turn
abbrev pub answers_of : Liar → List Sector
answers_of liar = liar.answers.items

-- the number of reads of a liar
abbrev pub reads_of : Liar → ℕ
reads_of liar = length liar.reads.items

-- the content that read number k returns, counted from 0: answer number k modulo the number of answers,
-- or zeros if there are no answers
abbrev pub answer : List Sector → ℕ → Sector
answer answers k = slice_index_or answers (k % length answers) (replicate sector_bytes 0)

-- a liar returned one more answer
pub record TakesAnswer (old new : Liar) : Type 0 where
  pub answers : answers_of new ≡ answers_of old
  pub reads : reads_of new ≡ reads_of old + 1

-- a liar returned no answer
pub record KeepsAnswers (old new : Liar) : Type 0 where
  pub answers : answers_of new ≡ answers_of old
  pub reads : reads_of new ≡ reads_of old
