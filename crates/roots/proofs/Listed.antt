-- The list of a root, as the code writes it after the fields before it.
use Rattle.std.proofs.Common.{◌≡◌, ℕ, List, ◌++◌, ap, ◌∙◌, append_assoc}

-- in three fields, as in version 1
pub three_behind : (front a b c : List ℕ) → front ++ a ++ b ++ c ≡ front ++ (a ++ b ++ c)
three_behind front a b c = ap (λ xs. xs ++ c) (append_assoc front a b) ∙ append_assoc front (a ++ b) c

-- in four fields, as in version 2
pub four_behind : (front a b c d : List ℕ) → front ++ a ++ b ++ c ++ d ≡ front ++ (a ++ b ++ c ++ d)
four_behind front a b c d = ap (λ xs. xs ++ d) (three_behind front a b c) ∙ append_assoc front (a ++ b ++ c) d
