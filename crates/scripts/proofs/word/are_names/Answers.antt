use Rattle.std.proofs.Common.{rules, nat_eq}
use Rattle.std.proofs.lemmas.Iterator.Search.{all_from_yields_List}
use Rattle.std.proofs.lemmas.Iterator.Splits.{YieldsList-from_slice_split}
use borrow.Author.Tests.{tests}
use Rattle.scripts.specs.Words.{is_name}
use Rattle.scripts.proofs.word.are_names.Goals as goal

pub returns : goal.returns
returns c =
    all_from_yields_List is_name _ _ _ c.all.ensures.ran
    (YieldsList-from_slice_split _ (λ b. nat_eq b 32) c.args.words.now c.split.ensures.rest c.split.ensures.done c.split.ensures.closure (λ x r q k. search (rules, tests)))
    (λ x b q k. search (rules, tests))
