use Rattle.std.proofs.Common.{rules}
use Rattle.elf_dynamic.specs.Strings.{has_bad_symbol_name}
use Rattle.elf_dynamic.specs.Symbol.{symbols}
use Rattle.elf_dynamic.proofs.tables.Tables.has_bad_symbol_name.Goals as goal

pub returns : goal.returns
unfolding has_bad_symbol_name symbols
returns c = search rules
