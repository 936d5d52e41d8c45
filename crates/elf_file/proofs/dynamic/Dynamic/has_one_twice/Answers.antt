use Rattle.std.proofs.Common.{rules, tests}
use Rattle.std.specs.Prelude.{nat_lt}
use Rattle.std.proofs.lemmas.Iterator.{YieldsList-from_slice}
use Rattle.std.proofs.lemmas.Iterator.Search.{any_from_yields_List}
use Rattle.elf_file.specs.Dynamic.{tag_count}
use Rattle.elf_file.specs.Tag.{number_of}
use Rattle.elf_file.proofs.dynamic.Dynamic.has_one_twice.Goals as goal

pub returns : goal.returns
returns c =
    any_from_yields_List (λ tag. nat_lt 1 (tag_count c.args.self.now (number_of tag))) _ _ c.any.result c.any.ensures.ran
    (YieldsList-from_slice c.args.tags.now cc) (λ x b q k. search (rules, tests))
