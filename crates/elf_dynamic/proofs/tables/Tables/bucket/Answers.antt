use Rattle.std.proofs.Common.{arith}
use Rattle.elf_dynamic.proofs.SymbolNumbers.{buckets_counted}
use Rattle.elf_dynamic.proofs.tables.Tables.bucket.Goals as goal

pub word-requires : goal.word-requires
word-requires c = omega (arith, c.requires, buckets_counted c.args.self.now, c.parts.ensures.hash.size)
