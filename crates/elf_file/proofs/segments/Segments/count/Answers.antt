use Rattle.std.proofs.Common.{rules, tests, ◌∙◌, refl, ap, length, map, filter}
use Rattle.std.specs.List.{range_with_len}
use Rattle.std.proofs.lemmas.Iterator.{YieldsList-from_range}
use Rattle.std.proofs.lemmas.Iterator.Consumers.{YieldsList-from_filter, YieldsList-at, count_from_yields_List}
use Rattle.elf_file.specs.Segment.{is_load, loads, program_header}
use Rattle.elf_file.proofs.ByNumber.{below, length-filter-map}
use Rattle.elf_file.proofs.segments.Segments.count.Goals as goal

pub returns : goal.returns
unfolding loads
returns c =
    count_from_yields_List c.filter.result c.count.result c.count.ensures.ran
    (YieldsList-from_filter _ (λ i. is_load (program_header c.args.self.now i))
    (YieldsList-at c.filter.ensures.source (YieldsList-from_range 0 c.header_count.result c.header_count.result refl (below c.header_count.result)))
    c.filter.ensures.closure (λ x b q k. search (rules, tests)))
    ∙ length-filter-map is_load (program_header c.args.self.now) (range_with_len 0 c.header_count.result)
    ∙ ap (λ m. length (filter is_load (map (program_header c.args.self.now) (range_with_len 0 m)))) c.header_count.ensures.ok
