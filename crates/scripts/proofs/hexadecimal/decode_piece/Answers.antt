use Rattle.std.proofs.Common.{◌≡◌, ◌+◌, ◌*◌, ◌/◌, ◌<◌, [], length, slice_index, Ok, rules, arith, sym, ap, ◌∙◌}
use Rattle.std.specs.Result.{result_ok}
use Rattle.hex.proofs.HexLemmas.{decode_of-even}
use Rattle.hex.proofs.Pairs.{decode_step, decode_done}
use Rattle.scripts.proofs.Pieces.{read-pair, digit-below, not-all, pair-high, pair-low}
use Rattle.scripts.proofs.hexadecimal.decode_piece.Goals as goal

pub returns-in_default : goal.returns-in_default
returns-in_default c =
    let other = c.values_of.ensures.other c.in_default.is in
    not-all c.args.digits.now other.0 (omega (arith, other.1, c.told-digits)) other.2

pub byte_of-requires-clause-high : goal.byte_of-requires-clause-high
byte_of-requires-clause-high c =
    let i = c.loop-i.i in
    let values = c.in-Some.values in
    let len : length values ≡ 32 = search rules in
    let is = pair-high (length values / 2) i c.as_chunks.result.0.now values [] c.as_chunks.ensures.front (omega (arith, len, c.loop-i-test.true)) in
    omega (arith, is, digit-below (slice_index c.args.digits.now (2 * i)) (slice_index values (2 * i)) (c.in-Some.ensures.all (2 * i) (omega (arith, c.loop-i-test.true))))

pub byte_of-requires-clause-low : goal.byte_of-requires-clause-low
byte_of-requires-clause-low c =
    let i = c.loop-i.i in
    let values = c.in-Some.values in
    let len : length values ≡ 32 = search rules in
    let is = pair-low (length values / 2) i c.as_chunks.result.0.now values [] c.as_chunks.ensures.front (omega (arith, len, c.loop-i-test.true)) in
    omega (arith, is, digit-below (slice_index c.args.digits.now (2 * i + 1)) (slice_index values (2 * i + 1)) (c.in-Some.ensures.all (2 * i + 1) (omega (arith, c.loop-i-test.true))))

pub loop-i-preserved : goal.loop-i-preserved
loop-i-preserved c =
    let s = c.args.digits.now in
    let i = c.loop-i.i in
    let values = c.in-Some.values in
    let len : length values ≡ 32 = search rules in
    let within : i < length values / 2 = omega (arith, len, c.loop-i-test.true) in
    let high = pair-high (length values / 2) i c.as_chunks.result.0.now values [] c.as_chunks.ensures.front within in
    let low = pair-low (length values / 2) i c.as_chunks.result.0.now values [] c.as_chunks.ensures.front within in
    let is : slice_index values (2 * i) * 16 + slice_index values (2 * i + 1) ≡ c.byte_of.result = omega (arith, c.byte_of.ensures, high, low) in
    let byte = read-pair (slice_index s (2 * i)) (slice_index s (2 * i + 1)) (2 * i) _ _
    (c.in-Some.ensures.all (2 * i) (omega (arith, c.loop-i-test.true))) (c.in-Some.ensures.all (2 * i + 1) (omega (arith, c.loop-i-test.true))) in
    record {
      size = search rules;
      digits = decode_step s c.loop-i.bytes i _ (omega (arith, c.told-digits, c.loop-i-test.true)) (omega (arith, c.loop-i.invariant.size, c.loop-i-test.true))
          (byte ∙ ap Ok is) c.loop-i.invariant.digits;
    }

pub returns : goal.returns
returns c =
    let s = c.args.digits.now in
    let done = decode_done s c.loop-i.bytes c.loop-i.i (omega (arith, c.loop-i.invariant.size, c.loop-i-test.false)) (omega (arith, c.told-digits, c.loop-i-test.false))
    c.loop-i.invariant.digits in
    sym (ap result_ok (decode_of-even s (omega (arith, c.told-digits)) ∙ done))
