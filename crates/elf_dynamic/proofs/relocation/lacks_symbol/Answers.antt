use Rattle.elf_dynamic.proofs.relocation.lacks_symbol.Goals as goal

pub returns-then-uses_symbol : goal.returns-then-uses_symbol
returns-then-uses_symbol c = rw (← c.if-uses_symbol.ensures)
