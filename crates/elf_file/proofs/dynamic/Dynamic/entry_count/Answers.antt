use Rattle.std.proofs.Common.{ap, ◌∙◌}
use Rattle.elf_file.specs.Dynamic.{dynamic_section}
use Rattle.elf_file.proofs.NeededFrom.{entries_kept}
use Rattle.elf_file.proofs.dynamic.Dynamic.entry_count.Goals as goal

pub returns-clause-entries : goal.returns-clause-entries
returns-clause-entries c =
    entries_kept c.args.self.now c.self.inside.section.now c.self.inside.tags.count (c.self.invariant.same ∙ ap dynamic_section c.self.view_is) c.self.invariant.kept.entries
