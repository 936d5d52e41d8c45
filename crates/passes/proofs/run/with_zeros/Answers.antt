use Rattle.std.proofs.Common.{length, ◌++◌}
use Rattle.std.proofs.lemmas.List.{drop-replicate}
use Rattle.passes.proofs.run.with_zeros.Goals as goal

pub returns : goal.returns
returns c = λ i. c.copy_from_slice.ensures.after i ++ drop-replicate (length c.args.bytes.now) 512 0 i
