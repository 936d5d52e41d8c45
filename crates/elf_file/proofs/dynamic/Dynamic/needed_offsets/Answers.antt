use Rattle.std.proofs.Common.{◌∙◌}
use Rattle.elf_file.proofs.NeededFrom.{values_from_start}
use Rattle.elf_file.proofs.dynamic.Dynamic.needed_offsets.Goals as goal

pub returns : goal.returns
returns c = c.new.ensures ∙ values_from_start c.args.self.now c.section.result.now c.entry_count.result c.section.ensures c.entry_count.ensures.entries
