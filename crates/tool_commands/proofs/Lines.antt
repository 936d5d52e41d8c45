-- Lemmas about the lines for libraries, one after the other.
use Rattle.std.proofs.Common.{◌≡◌, ℕ, ◌+◌, ◌<◌, List, [], ◌∷◌, ◌++◌, get_or, take, length, length-take, sym, ap, ◌∙◌, append_assoc, append-nil, arith}
use Rattle.std.proofs.lemmas.List.{take_more}
use Rattle.states.specs.State.{Library}
use Rattle.tool_commands.specs.Lines.{lines_of}

module _ {T : Type 0} (text : Library → T → List ℕ) where
  push : (ls : List Library) (xs : List T) (l : Library) (x : T) → length ls ≡ length xs → lines_of text (ls ++ l ∷ []) (xs ++ x ∷ []) ≡ lines_of text ls xs ++ text l x
  push [] [] l x h = append-nil (text l x)
  push [] (y ∷ xs) l x h = absurd (omega (arith, h))
  push (k ∷ ls) [] l x h = absurd (omega (arith, h))
  push (k ∷ ls) (y ∷ xs) l x h =
      ap (λ (t : List ℕ). text k y ++ t) (push ls xs l x (omega (arith, h))) ∙ sym (append_assoc (text k y) (lines_of text ls xs) (text l x))

  -- the lines for the first i + 1 libraries are those for the first i and that for library number i
  pub lines-more : (ls : List Library) (xs : List T) (i : ℕ) (dl : Library) (dx : T) → i < length ls → i < length xs
      → lines_of text (take (i + 1) ls) (take (i + 1) xs) ≡ lines_of text (take i ls) (take i xs) ++ text (get_or ls i dl) (get_or xs i dx)
  lines-more ls xs i dl dx hl hx =
      let same : length (take i ls) ≡ length (take i xs) = omega (arith, hl, hx, length-take i ls, length-take i xs) in
      ap (λ (t : List Library). lines_of text t (take (i + 1) xs)) (take_more ls i dl hl) ∙ ap (λ (t : List T). lines_of text (take i ls ++ get_or ls i dl ∷ []) t) (take_more xs i dx hx)
      ∙ push (take i ls) (take i xs) (get_or ls i dl) (get_or xs i dx) same
