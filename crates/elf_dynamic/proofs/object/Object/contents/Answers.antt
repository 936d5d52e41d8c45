use Rattle.std.proofs.Common.{◌≡◌, length, IfSome, Option, sym, ap, subst, ◌∙◌}
use Rattle.elf_file.specs.declared.segment.ProgramHeader.{ProgramHeader}
use Rattle.elf_dynamic.proofs.Accepted.{contents_whole}
use Rattle.elf_dynamic.proofs.object.Object.contents.Goals as goal

pub returns-clause-whole : goal.returns-clause-whole
returns-clause-whole c =
    subst (λ (found : Option ProgramHeader). IfSome found (λ segment. length c.contents_of.result.now ≡ segment.file_size)) (sym c.segment.ensures.segment)
    (ap length c.contents_of.ensures.contents ∙ contents_whole c.args.self.now c.args.i c.segment.result c.segment.ensures.accepted c.segment.ensures.segment)
