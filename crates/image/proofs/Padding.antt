-- Bytes with zeros after them.
use Rattle.std.proofs.Common.{◌≡◌, ℕ, ◌+◌, ◌-◌, ◌≤◌, List, ◌++◌, length, take, sym, ap, ◌∙◌, arith, append-nil, inl, inr, min}
use Rattle.std.specs.Prelude.{replicate}
use Rattle.std.proofs.Math.Seq.{take-append-add}
use Rattle.std.proofs.lemmas.Bool.{cases_lt}
use Rattle.std.proofs.lemmas.Grind.{common_steps}
use Rattle.std.proofs.lemmas.List.{take_all, take-append-le, take-replicate}
use Rattle.image.specs.inside.Segments.{padded}

abbrev zeros : ℕ → List ℕ
zeros n = replicate n 0

pub length_padded : (front : List ℕ) (size : ℕ) → length front ≤ size → length (padded front size) ≡ size
length_padded front size h = grind (arith, common_steps)

take-within : (front : List ℕ) (size n : ℕ) → n ≤ length front → take n front ++ zeros (n - n) ≡ take n (padded front size)
take-within front size n h =
    let none : n - n ≡ 0 = omega arith in
    ap (λ k. take n front ++ zeros k) none ∙ append-nil (take n front) ∙ sym (take-append-le n front (zeros (size - length front)) h)

take-beyond : (front : List ℕ) (size n : ℕ) → length front ≤ n → n ≤ size → take (length front) front ++ zeros (n - length front) ≡ take n (padded front size)
take-beyond front size n h l =
    let at : length front + (n - length front) ≡ n = omega (arith, h) in
    ap (λ bs. bs ++ zeros (n - length front)) (take_all (length front) front (omega arith))
    ∙ ap (λ bs. front ++ bs) (sym (take-replicate (n - length front) (size - length front) 0 (omega (arith, l))))
    ∙ sym (take-append-add front (zeros (size - length front)) (n - length front))
    ∙ ap (λ k. take k (padded front size)) at

-- the first n bytes of padded bytes are the kept ones among them, followed by zeros
pub padded-take : (front : List ℕ) (size n kept : ℕ) → n ≤ size → kept ≡ min (length front) n → take kept front ++ zeros (n - kept) ≡ take n (padded front size)
padded-take front size n kept h e =
    elim (cases_lt n (length front)) [
      | inl l ↦ ap (λ k. take k front ++ zeros (n - k)) (let is : kept ≡ n = omega (arith, e, l) in is) ∙ take-within front size n (omega (arith, l))
      | inr l ↦ ap (λ k. take k front ++ zeros (n - k)) (let is : kept ≡ length front = omega (arith, e, l) in is) ∙ take-beyond front size n l h
    ]
