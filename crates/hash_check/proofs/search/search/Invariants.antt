use Rattle.std.proofs.Common.{◌≡◌, ◌<◌, ◌-◌, length}
use Rattle.elf_dynamic.specs.HashTable.{buckets, chains}
use Rattle.hash_check.specs.Walk.{walk}
use Rattle.hash_check.specs.HashTable.{bucket_of}
use Rattle.hash_check.specs.Admission.{walked}
use Rattle.hash_check.specs.Definition.{is_exported_as}
use Rattle.hash_check.proofs.Searching.{Searching}
use Rattle.hash_check.proofs.search.search.Given as goal

abbrev pub invariant-loop-at : goal.invariant-loop-at
invariant-loop-at l = record {
  at : l.at ≡ walk (chains l.object) (bucket_of (buckets l.object) l.hash) l.compared;
  within : l.at < length (chains l.object);
  search : Searching (chains l.object) (bucket_of (buckets l.object) l.hash) l.compared (is_exported_as l.object l.name);
}

abbrev pub decreases-loop-at : goal.decreases-loop-at
decreases-loop-at l = length (walked (chains l.object) (bucket_of (buckets l.object) l.hash)) - l.compared
