use Rattle.std.proofs.Common.{rules, tests}
use Rattle.std.proofs.lemmas.Iterator.{YieldsList-from_zip}
use Rattle.std.proofs.lemmas.Iterator.Adapters.{YieldsList-from_skip}
use Rattle.std.proofs.lemmas.Iterator.Consumers.{YieldsList-from_first, YieldsList-at}
use Rattle.std.proofs.lemmas.Iterator.Search.{any_from_yields_List}
use Rattle.elf_file.specs.Segment.{is_out_of_order, has_bad_order}
use Rattle.elf_file.proofs.headers.Headers.has_bad_order.Goals as goal

pub returns : goal.returns
unfolding has_bad_order
returns c =
    any_from_yields_List is_out_of_order _ _ c.any.result c.any.ensures.ran
    (YieldsList-from_zip
    (YieldsList-at c.zip.ensures.first (YieldsList-from_first (λ x. x) (λ hs. hs) _ c.new-loads.ensures))
    (YieldsList-at c.zip.ensures.second
    (YieldsList-from_skip 1 (YieldsList-at c.skip-others.ensures.source (YieldsList-from_first (λ x. x) (λ hs. hs) _ c.new.ensures)) c.skip-others.ensures.count)))
    (λ x b q k. search (rules, tests))
