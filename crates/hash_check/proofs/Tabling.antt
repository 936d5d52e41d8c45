-- How a table of names is filled, and the meaning of the numbers in its cells.
use Rattle.std.proofs.Common.{◌≡◌, ℕ, ◌<◌, ◌+◌, List, [], ◌∷◌, ◌++◌, length, arith, ◌∙◌, sym, ap, get_or, subst, inl, inr}
use Rattle.std.proofs.lemmas.List.{get_or_append_left}
use Rattle.std.proofs.lemmas.Bool.{cases_lt}
use Rattle.std.proofs.Math.Seq.{get_or-append_seam}
use Rattle.hash_check.specs.inside.Key.{key_of}
use Rattle.hash_check.specs.Numbers.{nth_text}
use Rattle.hash_check.specs.inside.NameTable.{home, home_of, Reaches, Stands, IsPut}
use Rattle.hash_check.proofs.Cells.{one-place}

module _ (names : List (List ℕ)) (cells : List ℕ) where
  -- the numbers of all names are in their cells after one more name was put
  pub stand-more : (new numbers : List ℕ) (number told : ℕ) → IsPut names cells new number told → length numbers ≡ number → ((k : ℕ) → k < number → Stands names cells k (get_or numbers k 0))
      → (k : ℕ) → k < number + 1 → Stands names new k (get_or (numbers ++ told ∷ []) k 0)
  stand-more new numbers number told put size stand k lt = elim (cases_lt k number) [
    | inl early ↦ subst (Stands names new k) (sym (get_or_append_left numbers (told ∷ []) 0 k (omega (arith, early, size)))) (put.kept k (get_or numbers k 0) (stand k early))
    | inr late ↦
        let at : number ≡ k = omega arith in
        let last : get_or (numbers ++ told ∷ []) k 0 ≡ told = ap (λ i. get_or (numbers ++ told ∷ []) i 0) (sym at ∙ sym size) ∙ get_or-append_seam numbers told [] 0 in
        subst (Stands names new k) (sym last) (subst (λ i. Stands names new i told) at put.stands)
  ]

  -- equal names are found in the same cell
  stand-together : (j k a b : ℕ) → nth_text names j ≡ nth_text names k → Stands names cells j a → Stands names cells k b → a ≡ b
  stand-together j k a b same s t =
      let moved : Reaches (nth_text names) cells (nth_text names k) (home_of names cells k) s.place =
      subst (λ x. Reaches (nth_text names) cells x (home (length cells) (key_of x)) s.place) same s.is in
      sym s.cell ∙ ap (λ p. get_or cells p 0) (one-place (nth_text names) cells (nth_text names k) (home_of names cells k) t.place s.place t.is moved) ∙ t.cell
