use Rattle.std.proofs.Common.{◌≡◌, ◌+◌, arith, ap, sym, ◌∙◌, Some}
use Rattle.elf_dynamic.specs.HashTable.{word, bucket_count}
use Rattle.elf_dynamic.proofs.SymbolNumbers.{chains_counted, chain_numbered}
use Rattle.elf_dynamic.proofs.tables.Tables.chain.Goals as goal

pub word-requires : goal.word-requires
word-requires c = omega (arith, c.requires, chains_counted c.args.self.now, c.parts.ensures.hash.size, c.parts.ensures.hash.buckets)

pub returns : goal.returns
returns c =
    let file = c.args.self.now in
    let hash = c.parts.result.hash in
    let e : 2 + bucket_count file + c.args.i ≡ 2 + (hash.bucket_count + c.args.i) = omega (arith, c.parts.ensures.hash.buckets) in
    chain_numbered file hash.bytes.now c.args.i c.parts.ensures.hash.bytes c.requires
    ∙ ap (λ k. Some (word hash.bytes.now k)) e
    ∙ ap (λ x. Some x) (sym c.word.ensures)
