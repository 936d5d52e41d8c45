use Rattle.std.proofs.Common.{rules, tests, ◌∙◌, sym}
use Rattle.std.proofs.lemmas.Iterator.Adapters.{option_map_id}
use Rattle.std.proofs.lemmas.Iterator.Consumers.{YieldsList-from_first}
use Rattle.std.proofs.lemmas.Iterator.Search.{find_from_yields_List}
use Rattle.elf_file.specs.Address.{is_in_file_part, find_file_part}
use Rattle.elf_file.proofs.headers.Headers.find_file_part.Goals as goal

pub returns : goal.returns
unfolding find_file_part
returns c =
    sym (option_map_id c.find.result)
    ∙ find_from_yields_List (is_in_file_part c.args.address c.args.size) _ _ c.find.result c.find.ensures.ran
    (YieldsList-from_first (λ x. x) (λ hs. hs) _ c.new.ensures) (λ x b q k. search (rules, tests))
