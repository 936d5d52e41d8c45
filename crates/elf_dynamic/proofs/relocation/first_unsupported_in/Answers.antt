use Rattle.std.proofs.Common.{rules, tests, ◌∙◌, ◌/◌, refl, length, ap, sym}
use Rattle.std.specs.Prelude.{not}
use Rattle.std.specs.List.{find, range_with_len}
use Rattle.std.proofs.lemmas.Iterator.{YieldsList-from_range, YieldsList-from_map}
use Rattle.std.proofs.lemmas.Iterator.Adapters.{option_map_id}
use Rattle.std.proofs.lemmas.Iterator.Consumers.{YieldsList-at}
use Rattle.std.proofs.lemmas.Iterator.Search.{find_from_yields_List}
use Rattle.elf_file.specs.Constant.{RELOCATION_SIZE}
use Rattle.elf_dynamic.specs.Relocation.{nth_relocation, relocations_in, is_supported}
use Rattle.elf_file.proofs.ByNumber.{below}
use Rattle.elf_dynamic.proofs.ByNumber.{map-map}
use Rattle.elf_dynamic.proofs.relocation.first_unsupported_in.Goals as goal

pub returns : goal.returns
unfolding relocations_in
returns c =
    sym (option_map_id c.find.result)
    ∙ find_from_yields_List (λ kind. not (is_supported kind)) _ _ c.find.result c.find.ensures.ran
    (YieldsList-from_map _ (λ i. (nth_relocation c.args.table.now i).kind)
    (YieldsList-at c.map.ensures.source
    (YieldsList-from_range 0 (length c.args.table.now / RELOCATION_SIZE) (length c.args.table.now / RELOCATION_SIZE) refl (below (length c.args.table.now / RELOCATION_SIZE))))
    c.map.ensures.closure (λ x r q k. search rules))
    (λ x b q k. search (rules, tests))
    ∙ ap (find (λ kind. not (is_supported kind))) (map-map (λ r. r.kind) (nth_relocation c.args.table.now) (range_with_len 0 (length c.args.table.now / RELOCATION_SIZE)))
