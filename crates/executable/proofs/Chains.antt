-- Texts that several calls append, one after the other.
use Rattle.std.proofs.Common.{◌≡◌, ℕ, List, ◌++◌, append_assoc, ap, ◌∙◌}
use Rattle.std.specs.Prelude.{OnOk, Ok, Err, Result}

pub eight : (x x1 x2 x3 x4 x5 x6 x7 x8 a b c d e f g h : List ℕ)
    → x1 ≡ x ++ a → x2 ≡ x1 ++ b → x3 ≡ x2 ++ c → x4 ≡ x3 ++ d → x5 ≡ x4 ++ e → x6 ≡ x5 ++ f → x7 ≡ x6 ++ g → x8 ≡ x7 ++ h
    → x8 ≡ x ++ (a ++ (b ++ (c ++ (d ++ (e ++ (f ++ (g ++ h)))))))
eight x x1 x2 x3 x4 x5 x6 x7 x8 a b c d e f g h p1 p2 p3 p4 p5 p6 p7 p8 =
    p8 ∙ ap (λ s. s ++ h) (p7 ∙ ap (λ s. s ++ g) (p6 ∙ ap (λ s. s ++ f) (p5 ∙ ap (λ s. s ++ e) (p4 ∙ ap (λ s. s ++ d) (p3 ∙ ap (λ s. s ++ c) (p2 ∙ ap (λ s. s ++ b) p1))))))
    ∙ simp append_assoc

pub on-ok : {T E : Type 0} {P Q : Type 0} (r : Result T E) → (P → Q) → OnOk r P → OnOk r Q
on-ok (Ok t) f p = f p
on-ok (Err e) f p = tt
