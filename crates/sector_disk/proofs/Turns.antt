-- Answers that are returned in turn.
use Rattle.std.proofs.Common.{◌≡◌, ◌+◌, ◌%◌, ◌∷◌, ◌++◌, [], ℕ, List, length, ap, sym, ◌∙◌}
use Rattle.std.proofs.Math.ListN.{length-append}
use Rattle.std.proofs.Math.Nat.{suc-mod}
use Rattle.std.proofs.Math.Numerals.{suc-eq-add-one}

-- after one more answer, the position of the next answer is one further, modulo the number of answers
pub next_in_turn : {A : Type 0} (next count : ℕ) (given more : List A) (one : A) → next ≡ length given % count → more ≡ given ++ one ∷ [] → (next + 1) % count ≡ length more % count
next_in_turn next count given more one is more_is =
    let e : (length given + 1) % count ≡ (length given % count + 1) % count = simp suc-eq-add-one at (suc-mod (length given) count) in
    let longer : length more ≡ length given + 1 = ap length more_is ∙ length-append given (one ∷ []) in
    ap (λ n. (n + 1) % count) is ∙ sym e ∙ sym (ap (λ n. n % count) longer)
