use Rattle.std.proofs.Common.{rules, tests, ◌∙◌, refl, ap, map}
use Rattle.std.specs.Prelude.{count_by}
use Rattle.std.specs.List.{range_with_len}
use Rattle.std.proofs.lemmas.List.Sums.{length-filter}
use Rattle.std.proofs.lemmas.Iterator.{YieldsList-from_range}
use Rattle.std.proofs.lemmas.Iterator.Consumers.{YieldsList-from_filter, YieldsList-at, count_from_yields_List}
use Rattle.elf_file.specs.Segment.{program_header}
use Rattle.elf_file.specs.Dynamic.{is_dynamic, dynamic_count}
use Rattle.elf_file.proofs.ByNumber.{below, length-filter-map}
use Rattle.elf_file.proofs.headers.Headers.dynamic_count.Goals as goal

pub returns : goal.returns
unfolding dynamic_count
returns c =
    count_from_yields_List c.filter.result c.count-2.result c.count-2.ensures.ran
    (YieldsList-from_filter _ (λ i. is_dynamic (program_header c.args.self.now i))
    (YieldsList-at c.filter.ensures.source (YieldsList-from_range 0 c.count.result c.count.result refl (below c.count.result)))
    c.filter.ensures.closure (λ x b q k. search (rules, tests)))
    ∙ length-filter-map is_dynamic (program_header c.args.self.now) (range_with_len 0 c.count.result)
    ∙ length-filter is_dynamic (map (program_header c.args.self.now) (range_with_len 0 c.count.result))
    ∙ ap (λ m. count_by is_dynamic (map (program_header c.args.self.now) (range_with_len 0 m))) c.count.ensures.ok
