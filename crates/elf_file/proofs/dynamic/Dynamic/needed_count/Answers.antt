use Rattle.std.proofs.Common.{◌∙◌}
use Rattle.elf_file.proofs.NeededFrom.{needed_counted}
use Rattle.elf_file.proofs.dynamic.Dynamic.needed_count.Goals as goal

pub returns : goal.returns
returns c = c.tag_count.ensures ∙ needed_counted c.args.self.now
