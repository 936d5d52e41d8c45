use Rattle.elf_dynamic.proofs.tables.Tables.is_unended.Goals as goal

pub returns-else-is_empty : goal.returns-else-is_empty
returns-else-is_empty c = rw (← c.parts.ensures.strings_size, ← c.parts.ensures.strings, ← c.if-is_empty.ensures)
