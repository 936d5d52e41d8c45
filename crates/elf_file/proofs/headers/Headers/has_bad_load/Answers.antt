use Rattle.std.proofs.Common.{rules, tests, ◌∙◌, ap, length}
use Rattle.std.proofs.lemmas.Iterator.Consumers.{YieldsList-from_first}
use Rattle.std.proofs.lemmas.Iterator.Search.{any_from_yields_List}
use Rattle.std.specs.List.{list_any}
use Rattle.elf_file.specs.Segment.{is_bad_load, has_bad_load, loads, program_headers}
use Rattle.elf_file.proofs.AnyLoad.{any_load}
use Rattle.elf_file.proofs.headers.Headers.has_bad_load.Goals as goal

pub returns : goal.returns
unfolding has_bad_load loads
returns c =
    any_from_yields_List (is_bad_load (length c.file.result.now)) _ _ c.any.result c.any.ensures.ran (YieldsList-from_first (λ x. x) (λ hs. hs) _ c.new.ensures) (λ x b q k. search (rules, tests))
    ∙ any_load (is_bad_load (length c.file.result.now)) (λ h is. rw is) (program_headers c.args.self.now)
    ∙ ap (λ file. list_any (is_bad_load (length file)) (program_headers c.args.self.now)) c.file.ensures
