use Rattle.std.proofs.Common.{rules, tests, ◌∙◌, sym}
use Rattle.std.proofs.lemmas.Iterator.Adapters.{option_map_id}
use Rattle.std.proofs.lemmas.Iterator.Consumers.{YieldsList-from_first}
use Rattle.std.proofs.lemmas.Iterator.Search.{find_from_yields_List}
use Rattle.elf_file.specs.ObjectAddresses.{has_file_bytes}
use Rattle.elf_file.proofs.headers.Headers.find_file_bytes.Goals as goal

pub returns : goal.returns
returns c =
    sym (option_map_id c.find.result)
    ∙ find_from_yields_List (has_file_bytes c.args.offset c.args.size) _ _ c.find.result c.find.ensures.ran
    (YieldsList-from_first (λ x. x) (λ hs. hs) _ c.new.ensures) (λ x b q k. search (rules, tests))
