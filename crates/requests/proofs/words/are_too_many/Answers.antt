use Rattle.std.proofs.Common.{ap, sym}
use Rattle.std.specs.Prelude.{nat_lt}
use Rattle.std.proofs.lemmas.List.{length-map}
use Rattle.states.specs.Limits.{most_preloads}
use Rattle.requests.proofs.words.are_too_many.Goals as goal

pub returns : goal.returns
returns c = ap (nat_lt most_preloads) (sym (length-map c.args.names.now (λ n. n.now)))
