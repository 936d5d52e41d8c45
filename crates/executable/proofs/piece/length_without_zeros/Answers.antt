use Rattle.std.proofs.Common.{arith, ◌∙◌, sym}
use Rattle.executable.proofs.Zeros.{zero-step, other-step}
use Rattle.executable.proofs.piece.length_without_zeros.Goals as goal

pub loop-length-preserved : goal.loop-length-preserved
loop-length-preserved c =
    record {
      bound = omega arith;
      kept = zero-step c.args.bytes.now c.loop-length.length (omega arith) c.loop-length.invariant.bound c.if-bytes-length-eq0.true ∙ c.loop-length.invariant.kept;
    }

pub returns-else-bytes-length-eq0-clause-kept : goal.returns-else-bytes-length-eq0-clause-kept
returns-else-bytes-length-eq0-clause-kept c =
    sym (other-step c.args.bytes.now c.loop-length.length (omega arith) c.loop-length.invariant.bound c.if-bytes-length-eq0.false) ∙ c.loop-length.invariant.kept
