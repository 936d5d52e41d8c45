-- Texts that end within a line.
use Rattle.std.proofs.Common.{◌≡◌, ◌≢◌, ℕ, List, [], ◌∷◌, ◌++◌, length, ◌==◌, false, inl, inr, Option, refl, sym, ap, ◌∙◌, append_assoc, arith}
use Rattle.std.proofs.lemmas.Bool.{false≢true}
use Rattle.std.proofs.lemmas.List.Elements.{All-head, All-tail}
use Rattle.std.proofs.KnownBytes.{Appends-nil}
use Rattle.text_output.specs.Pieces.{EndsWithinLine, GetsFrontPiece, IsWithinLine}

-- a text that isn't empty and has no newline has a last byte, which isn't a newline
last_of : (b : ℕ) (text : List ℕ) → IsWithinLine (b ∷ text) → (front : List ℕ) × (last : ℕ) × (last ≢ 10) × (b ∷ text ≡ front ++ last ∷ [])
last_of b [] line = ([], b, All-head (λ b. b ≢ 10) b [] line, refl)
last_of b (next ∷ text) line =
    let rest = last_of next text (All-tail (λ b. b ≢ 10) b (next ∷ text) line) in
    (b ∷ rest.0, rest.1, rest.2, ap (λ l. b ∷ l) rest.3)

-- bytes end within a line if they end with a text that isn't empty and has no newline
pub ends_behind : (waiting text : List ℕ) → (length text == 0) ≡ false → IsWithinLine text → EndsWithinLine (waiting ++ text)
ends_behind waiting [] some line = absurd (false≢true (sym some))
ends_behind waiting (b ∷ text) some line =
    let it = last_of b text line in
    inr (waiting ++ it.0, it.1, it.2, ap (λ l. waiting ++ l) it.3 ∙ sym (append_assoc waiting it.0 (it.1 ∷ [])))

-- a writer that receives nothing receives an empty piece
pub gets_none : (held : Option (List ℕ)) → GetsFrontPiece held held
gets_none held = ([], record { size = omega arith; within = inl refl }, Appends-nil held)
