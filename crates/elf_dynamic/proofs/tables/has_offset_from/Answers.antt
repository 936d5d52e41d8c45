use Rattle.std.proofs.Common.{refl, rules, tests}
use Rattle.std.specs.Prelude.{nat_le}
use Rattle.std.proofs.lemmas.Iterator.Consumers.{YieldsList-from_first}
use Rattle.std.proofs.lemmas.Iterator.Search.{any_from_yields_List}
use Rattle.elf_dynamic.proofs.tables.has_offset_from.Goals as goal

pub returns : goal.returns
returns c = any_from_yields_List (nat_le c.args.limit) _ _ c.any.result c.any.ensures.ran (YieldsList-from_first (λ x. x) (λ os. os) c.args.offsets refl) (λ x b q k. search (rules, tests))
