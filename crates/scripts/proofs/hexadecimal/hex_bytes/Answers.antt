use Rattle.std.proofs.Common.{◌≡◌, ◌*◌, ◌/◌, ◌+◌, ◌<◌, length, drop, None, Some, Ok, Err, arith, refl, sym, ap, ◌∙◌}
use Rattle.std.specs.Result.{result_ok}
use Rattle.hex.specs.Hex.{decode_pairs}
use Rattle.scripts.proofs.Pieces.{joined, joined-nil, next-read, next-refused, last-digits, front-half, sized-read, sized-refused, hex_bytes-even}
use Rattle.scripts.proofs.hexadecimal.hex_bytes.Goals as goal

pub loop-piece-init : goal.loop-piece-init
loop-piece-init c =
    let rest = result_ok (decode_pairs 0 c.args.word.now) in
    sym (ap (λ l. joined (Some l) rest) c.in_ok-bytes.ensures.items ∙ joined-nil rest)

pub loop-piece-preserved : goal.loop-piece-preserved
loop-piece-preserved c =
    let word = c.args.word.now in
    let i = c.loop-piece.piece-index in
    let within : i < length word / 32 = omega (arith, c.loop-piece-test.true, c.as_chunks.ensures.front_len) in
    next-read (length word / 32) i c.as_chunks.result.0.now word _ c.loop-piece.bytes.items c.in-Some.decoded c.as_chunks.ensures.front within (omega arith) c.in-Some.ensures c.loop-piece.invariant
    ∙ ap (λ l. joined (Some l) (result_ok (decode_pairs 0 (drop (32 * (i + 1)) word)))) (sym c.in_ok-extend_from_slice-in-Some.ensures.items)

pub returns-in-None : goal.returns-in-None
returns-in-None c =
    let word = c.args.word.now in
    let i = c.loop-piece.piece-index in
    let within : i < length word / 32 = omega (arith, c.loop-piece-test.true, c.as_chunks.ensures.front_len) in
    sym (hex_bytes-even word (sym c.if-is_empty.ensures) c.if-word-ne0.false
    ∙ next-refused (length word / 32) i c.as_chunks.result.0.now word _ c.loop-piece.bytes.items c.as_chunks.ensures.front within (omega arith) c.in-None.ensures c.loop-piece.invariant)

pub returns-in_default : goal.returns-in_default
returns-in_default c =
    let word = c.args.word.now in
    let rest = c.as_chunks.result.1.now in
    let i = c.loop-piece.piece-index in
    let all : i ≡ length word / 32 = omega (arith, c.loop-piece-test.false, c.loop-piece.auto.piece-index-end, c.as_chunks.ensures.front_len) in
    let at : length word / 32 * 32 ≡ 32 * i = omega (arith, all) in
    let even = front-half rest _ (omega (arith, c.as_chunks.ensures.back_len, c.if-word-ne0.false)) (omega (arith, c.as_chunks.ensures.back_len)) in
    let none = sized-refused _ (Err c.in_default.field-0) _ c.in_default.field-0 c.in_default.ensures.value refl in
    sym (hex_bytes-even word (sym c.if-is_empty.ensures) c.if-word-ne0.false
    ∙ last-digits i _ word rest c.loop-piece.bytes.items None (c.as_chunks.ensures.back ∙ ap (λ k. drop k word) at) even none c.loop-piece.invariant)

pub returns : goal.returns
returns c =
    let word = c.args.word.now in
    let rest = c.as_chunks.result.1.now in
    let i = c.loop-piece.piece-index in
    let out = c.decode_to_slice.new.out in
    let all : i ≡ length word / 32 = omega (arith, c.loop-piece-test.false, c.loop-piece.auto.piece-index-end, c.as_chunks.ensures.front_len) in
    let at : length word / 32 * 32 ≡ 32 * i = omega (arith, all) in
    let even = front-half rest _ (omega (arith, c.as_chunks.ensures.back_len, c.if-word-ne0.false)) (omega (arith, c.as_chunks.ensures.back_len)) in
    let read = sized-read _ (Ok c.in-Ok.field-0) out c.in-Ok.ensures.value refl in
    ap (λ l. Some l) c.in_ok-extend_from_slice.ensures.items
    ∙ sym (hex_bytes-even word (sym c.if-is_empty.ensures) c.if-word-ne0.false
    ∙ last-digits i _ word rest c.loop-piece.bytes.items (Some out) (c.as_chunks.ensures.back ∙ ap (λ k. drop k word) at) even read c.loop-piece.invariant)
