use Rattle.std.proofs.Common.{arith}
use Rattle.elf_dynamic.specs.HashTable.{chain_count}
use Rattle.elf_dynamic.proofs.SymbolNumbers.{symbols_counted}
use Rattle.elf_dynamic.proofs.tables.Tables.symbol.Goals as goal

pub nth_symbol-requires : goal.nth_symbol-requires
nth_symbol-requires c =
    omega (
      arith,
      c.requires,
      c.parts.ensures.symbols_size,
      symbols_counted c.args.self.now c.parts.result.symbols.now (chain_count c.args.self.now) c.parts.ensures.symbols c.parts.ensures.symbols_size,
    )
