use Rattle.std.proofs.Common.{sym, ◌∙◌}
use Rattle.elf_dynamic.specs.HashTable.{chain_count}
use Rattle.elf_dynamic.proofs.SymbolNumbers.{symbols_counted, chains_counted}
use Rattle.elf_dynamic.proofs.tables.Tables.symbol_count.Goals as goal

pub returns-clause-count : goal.returns-clause-count
returns-clause-count c =
    c.parts.ensures.hash.chains
    ∙ sym (symbols_counted c.args.self.now c.parts.result.symbols.now (chain_count c.args.self.now) c.parts.ensures.symbols c.parts.ensures.symbols_size)

pub returns-clause-words : goal.returns-clause-words
returns-clause-words c = c.parts.ensures.hash.chains ∙ sym (chains_counted c.args.self.now)
