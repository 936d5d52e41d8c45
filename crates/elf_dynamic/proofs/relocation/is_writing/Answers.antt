use Rattle.elf_dynamic.proofs.relocation.is_writing.Goals as goal

pub returns-else-uses_symbol : goal.returns-else-uses_symbol
returns-else-uses_symbol c = rw (← c.if-uses_symbol.ensures)
