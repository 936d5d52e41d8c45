use Rattle.std.proofs.Common.{◌≡◌, ℕ, ◌*◌, [], ◌∷◌, ◌++◌, List, take, drop, rules, arith, sym, ap, ◌∙◌, take-append-drop, append-nil}
use Rattle.std.proofs.lemmas.List.{drop_all, drop_more}
use Rattle.hex.specs.Hex.{lower_digits, encode_lower, encode_with}
use Rattle.hex.proofs.Pairs.{encode_step}
use Rattle.text_output.proofs.hexadecimal.line.Goals as goal

pub loop-i-preserved : goal.loop-i-preserved
loop-i-preserved c =
    record {
      size = search rules;
      end = search rules;
      digits = encode_step lower_digits c.args.bytes.now c.loop-i.text c.loop-i.i _ _ (omega (arith, c.told-bytes))
          (omega (arith, c.loop-i.invariant.size)) c.digits.ensures.first c.digits.ensures.second c.loop-i.invariant.digits;
    }

pub returns : goal.returns
unfolding encode_with
returns c =
    let i = c.loop-i.i in
    let bytes = c.args.bytes.now in
    let text = c.loop-i.text in
    let whole : i ≡ 16 = omega (arith, c.loop-i-test.false, c.loop-i.auto.i-end) in
    let none : drop i bytes ≡ [] = drop_all i bytes (omega (arith, c.told-bytes, c.loop-i-test.false)) in
    let digits : take (2 * i) text ≡ encode_lower bytes =
    sym (append-nil (take (2 * i) text)) ∙ ap (λ (l : List ℕ). take (2 * i) text ++ encode_lower l) (sym none) ∙ c.loop-i.invariant.digits in
    let far : drop 33 text ≡ [] = drop_all 33 text (omega (arith, c.loop-i.invariant.size)) in
    let end : drop 32 text ≡ 10 ∷ [] =
    drop_more text 32 0 (omega (arith, c.loop-i.invariant.size)) ∙ ap (λ (b : ℕ). b ∷ drop 33 text) c.loop-i.invariant.end ∙ ap (λ (l : List ℕ). 10 ∷ l) far in
    let last : drop (2 * i) text ≡ 10 ∷ [] = ap (λ (k : ℕ). drop (2 * k) text) whole ∙ end in
    sym (take-append-drop (2 * i) text) ∙ ap (λ (l : List ℕ). l ++ drop (2 * i) text) digits ∙ ap (λ (l : List ℕ). encode_lower bytes ++ l) last
