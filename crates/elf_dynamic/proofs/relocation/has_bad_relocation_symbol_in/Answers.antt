use Rattle.std.proofs.Common.{rules, tests, ◌∙◌, ◌/◌, refl, length}
use Rattle.std.specs.Prelude.{◌&&◌, nat_le}
use Rattle.std.specs.List.{range_with_len}
use Rattle.std.proofs.lemmas.Iterator.{YieldsList-from_range}
use Rattle.std.proofs.lemmas.Iterator.Search.{any_from_yields_List}
use Rattle.elf_file.specs.Constant.{RELOCATION_SIZE}
use Rattle.elf_dynamic.specs.Relocation.{nth_relocation, relocations_in, uses_symbol}
use Rattle.elf_file.proofs.ByNumber.{below, list_any-map}
use Rattle.elf_dynamic.proofs.relocation.has_bad_relocation_symbol_in.Goals as goal

pub returns : goal.returns
unfolding relocations_in
returns c =
    any_from_yields_List (λ i. uses_symbol (nth_relocation c.args.table.now i).kind && nat_le c.args.count (nth_relocation c.args.table.now i).symbol) _ _ c.any.result c.any.ensures.ran
    (YieldsList-from_range 0 (length c.args.table.now / RELOCATION_SIZE) (length c.args.table.now / RELOCATION_SIZE) refl (below (length c.args.table.now / RELOCATION_SIZE)))
    (λ x b q k. search (rules, tests))
    ∙ list_any-map (λ r. uses_symbol r.kind && nat_le c.args.count r.symbol) (nth_relocation c.args.table.now) (range_with_len 0 (length c.args.table.now / RELOCATION_SIZE))
