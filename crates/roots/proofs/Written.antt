-- What is written to a sector, field by field.
use Rattle.std.proofs.Common.{◌≡◌, ℕ, ◌-◌, ◌≤◌, List, ◌++◌, length, ap, ◌∙◌, arith}
use Rattle.roots.specs.Fields.{zeros}

-- if the fields so far are known, they are known after one more field
pub then_put : (front old new field : List ℕ) → new ≡ old ++ field → old ≡ front → new ≡ front ++ field
then_put front old new field put known = put ∙ ap (λ fields. fields ++ field) known

-- if the fields so far are known, they are known after one more field that is equal to a known one
pub then_spelt : (front old new field spelling : List ℕ) → new ≡ old ++ field → field ≡ spelling → old ≡ front → new ≡ front ++ spelling
then_spelt front old new field spelling put spelt known = then_put front old new field put known ∙ ap (λ xs. front ++ xs) spelt

-- the finished sector consists of the known fields, followed by zeros
pub then_finish : (front fields sector : List ℕ) (n : ℕ) → sector ≡ fields ++ zeros (512 - length fields) → length fields ≡ 512 - n → n ≤ 512 → fields ≡ front → sector ≡ front ++ zeros n
then_finish front fields sector n finish len fit known =
    let left : 512 - length fields ≡ n = omega arith in
    finish ∙ ap (λ k. fields ++ zeros k) left ∙ ap (λ xs. xs ++ zeros n) known
