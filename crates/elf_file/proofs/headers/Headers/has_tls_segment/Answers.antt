use Rattle.std.proofs.Common.{rules, tests, ◌∙◌, refl, ap, map}
use Rattle.std.specs.List.{list_any, range_with_len}
use Rattle.std.proofs.lemmas.Iterator.{YieldsList-from_range}
use Rattle.std.proofs.lemmas.Iterator.Search.{any_from_yields_List}
use Rattle.elf_file.specs.Segment.{is_tls, has_tls_segment, program_header}
use Rattle.elf_file.proofs.ByNumber.{below, list_any-map}
use Rattle.elf_file.proofs.headers.Headers.has_tls_segment.Goals as goal

pub returns : goal.returns
unfolding has_tls_segment
returns c =
    any_from_yields_List (λ i. is_tls (program_header c.args.self.now i)) _ _ c.any.result c.any.ensures.ran
    (YieldsList-from_range 0 c.count.result c.count.result refl (below c.count.result)) (λ x b q k. search (rules, tests))
    ∙ list_any-map is_tls (program_header c.args.self.now) (range_with_len 0 c.count.result)
    ∙ ap (λ m. list_any is_tls (map (program_header c.args.self.now) (range_with_len 0 m))) c.count.ensures.ok
