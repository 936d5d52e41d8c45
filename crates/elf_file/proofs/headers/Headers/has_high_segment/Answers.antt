use Rattle.std.proofs.Common.{rules, tests, ◌∙◌}
use Rattle.std.proofs.lemmas.Iterator.Consumers.{YieldsList-from_first}
use Rattle.std.proofs.lemmas.Iterator.Search.{any_from_yields_List}
use Rattle.elf_file.specs.Segment.{is_too_high, has_high_segment, loads, program_headers}
use Rattle.elf_file.proofs.AnyLoad.{any_load}
use Rattle.elf_file.proofs.headers.Headers.has_high_segment.Goals as goal

pub returns : goal.returns
unfolding has_high_segment loads
returns c =
    any_from_yields_List is_too_high _ _ c.any.result c.any.ensures.ran (YieldsList-from_first (λ x. x) (λ hs. hs) _ c.new.ensures) (λ x b q k. search (rules, tests))
    ∙ any_load is_too_high (λ h is. rw is) (program_headers c.args.self.now)
