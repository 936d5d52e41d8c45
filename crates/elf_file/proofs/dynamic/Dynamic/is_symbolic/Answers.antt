use Rattle.elf_file.specs.Dynamic.{is_symbolic}
use Rattle.elf_file.proofs.dynamic.Dynamic.is_symbolic.Goals as goal

pub returns-else-is_present : goal.returns-else-is_present
unfolding is_symbolic
returns-else-is_present c = rw (← c.if-is_present.ensures) c.is_flagged_symbolic.ensures
