use Rattle.std.proofs.Common.{List, ℕ, arith}
use Rattle.elf_dynamic.specs.Strings.{name_of}
use Rattle.elf_dynamic.specs.HashTable.{buckets, chains}
use Rattle.hash_check.specs.Hash.{elf_hash}
use Rattle.hash_check.specs.Walk.{Meets}
use Rattle.hash_check.proofs.Exported.{exported_some, exported_within}
use Rattle.hash_check.proofs.Joining.{joint-meets}
use Rattle.hash_check.proofs.table.is_met_by_all.Goals as goal

pub is_met-requires-clause-index : goal.is_met-requires-clause-index
is_met-requires-clause-index c = omega (arith, exported_within c.args.object.now c.args.i c.requires.exported, c.new.ensures.symbols)

pub is_met-requires-clause-nonzero : goal.is_met-requires-clause-nonzero
is_met-requires-clause-nonzero c = exported_some c.args.object.now c.args.i c.requires.exported

pub returns : goal.returns
returns c = λ met.
    let file : List ℕ = c.args.object.now in
    let on : Meets (chains file) c.args.joint c.args.i = rw c.new.ensures.words at (c.is_met.ensures.0 met) in
    joint-meets (buckets file) (chains file) c.args.places.now c.args.joint (elf_hash (name_of file c.args.i)) c.args.i c.requires.some c.requires.joint on
