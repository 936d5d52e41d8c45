use Rattle.std.proofs.Common.{◌==◌, ℕ, ap, bit_and, not}
use Rattle.elf_file.proofs.dynamic.Dynamic.is_flagged_symbolic.Goals as goal

pub returns-then-is_present : goal.returns-then-is_present
returns-then-is_present c = rw (← c.if-is_present.ensures) (ap (λ (flags : ℕ). not (bit_and flags 2 == 0)) c.tag_value.ensures)
