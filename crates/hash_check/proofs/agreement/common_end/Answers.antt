use Rattle.std.proofs.Common.{◌≡◌, ◌∙◌, ◌<◌, ◌-◌, ℕ, List, length, take, reverse, get_or, arith, ap, sym, subst, inl, inr}
use Rattle.std.proofs.lemmas.Bool.{cases_lt}
use Rattle.std.proofs.lemmas.List.{get_or-reverse, get_or-take, length-reverse, take_more_same}
use Rattle.hash_check.proofs.agreement.common_end.Goals as goal

-- strings that have their last n bytes in common have the same byte at each place of these
same-byte : (a b : List ℕ) (i n : ℕ) → i < n → i < length a → i < length b → take n (reverse a) ≡ take n (reverse b) → get_or a (length a - 1 - i) 0 ≡ get_or b (length b - 1 - i) 0
same-byte a b i n lt in-a in-b same =
    sym (get_or-reverse a i 0 in-a) ∙ sym (get_or-take n (reverse a) i 0 lt) ∙ ap (λ l. get_or l i 0) same ∙ get_or-take n (reverse b) i 0 lt ∙ get_or-reverse b i 0 in-b

pub returns-then-a-i-clause-agree : goal.returns-then-a-i-clause-agree
returns-then-a-i-clause-agree c = c.loop-i.invariant

pub returns-then-a-i-clause-most : goal.returns-then-a-i-clause-most
returns-then-a-i-clause-most c = λ n in-a in-b same.
    elim (cases_lt c.loop-i.i n) [
      | inl lt ↦ absurd (c.if-a-i.true (same-byte c.args.a.now c.args.b.now c.loop-i.i n lt (omega arith) (omega arith) same))
      | inr le ↦ le
    ]

pub loop-i-preserved : goal.loop-i-preserved
loop-i-preserved c =
    let in-a : c.loop-i.i < length c.args.a.now = omega arith in
    let in-b : c.loop-i.i < length c.args.b.now = omega arith in
    take_more_same (reverse c.args.a.now) (reverse c.args.b.now) c.loop-i.i 0 (omega (arith, in-a, length-reverse c.args.a.now)) (omega (arith, in-b, length-reverse c.args.b.now))
    c.loop-i.invariant (get_or-reverse c.args.a.now c.loop-i.i 0 in-a ∙ c.if-a-i.false ∙ sym (get_or-reverse c.args.b.now c.loop-i.i 0 in-b))

pub returns-clause-agree : goal.returns-clause-agree
returns-clause-agree c =
    let all : c.loop-i.i ≡ c.min-shorter.result = omega arith in
    subst (λ n. take n (reverse c.args.a.now) ≡ take n (reverse c.args.b.now)) all c.loop-i.invariant

pub returns-clause-most : goal.returns-clause-most
returns-clause-most c = λ n in-a in-b same. omega arith
