use Rattle.std.proofs.Common.{rules}
use Rattle.elf_dynamic.specs.Strings.{string_table}
use Rattle.elf_dynamic.specs.Symbol.{symbol_table}
use Rattle.elf_dynamic.specs.Relocation.{table}
use Rattle.elf_dynamic.proofs.parts.Parts.find.Goals as goal

pub returns : goal.returns
unfolding string_table symbol_table table
returns c = search rules
