use Rattle.std.proofs.Common.{rules, tests}
use Rattle.elf_file.specs.Refusal.{segment_refusal}
use Rattle.elf_file.proofs.first_refusal.test_segments.Goals as goal

pub returns-then-has_bad_order-clause-refused : goal.returns-then-has_bad_order-clause-refused
unfolding segment_refusal
returns-then-has_bad_order-clause-refused c = search (rules, tests)
