use Rattle.elf_file.proofs.dynamic.Dynamic.has_unsupported_tag.Goals as goal

pub returns-else-is_present : goal.returns-else-is_present
returns-else-is_present c = rw (← c.if-is_present.ensures) c.is_present-else-is_present.ensures
