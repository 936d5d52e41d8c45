use Rattle.std.proofs.Common.{◌≡◌, ℕ, ◌+◌, ◌-◌, ◌*◌, ◌/◌, ◌<◌, length, drop, sym, subst, arith}
use Rattle.std.specs.Prelude.{replicate}
use Rattle.text_output.proofs.ZeroLines.{zero-block, zeros-before}
use Rattle.text_output.proofs.zeros.zeros_begin.Goals as goal

pub loop-count-preserved : goal.loop-count-preserved
loop-count-preserved c =
    let bytes = c.args.bytes.now in
    let count = c.loop-count.count in
    let at : 64 * (count - 1) + 64 ≡ 64 * count = omega arith in
    let within : count - 1 < length bytes / 64 = omega (arith, c.as_chunks.ensures.front_len, c.loop-count.invariant.within) in
    let block = zero-block c.as_chunks.result.0.now (length bytes / 64) (count - 1) bytes _ c.as_chunks.ensures.front within (omega arith) (c.is_zero.ensures c.if-is_zero.true) in
    let behind = subst (λ (k : ℕ). drop k bytes ≡ replicate (length bytes - k) 0) (sym at) c.loop-count.invariant.zeros in
    record {
      within = omega (arith, c.loop-count.invariant.within);
      zeros = zeros-before bytes (64 * (count - 1)) 64 (omega (arith, within)) block behind;
    }
