-- Lists of values that are encoded one after the other, each in a fixed number of bytes: what is encoded is read back.
use Rattle.std.proofs.Common.{◌≡◌, ℕ, zero, suc, ◌+◌, ◌*◌, ◌<◌, ◌≤◌, List, [], ◌∷◌, ◌++◌, length, get_or, take, drop, ap, sym, subst, ◌∙◌, append_assoc, arith, length-append}
use Rattle.std.specs.Prelude.{All}
use Rattle.std.specs.List.{flat_map}
use Rattle.std.proofs.lemmas.List.{drop-drop, drop_at, drop_more, take-append-drop}
use Rattle.std.proofs.lemmas.List.Elements.{All-append, All-weaker, All-get_or}
use Rattle.std.proofs.lemmas.List.FromFn.{fill_by_all}
use Rattle.roots.specs.Fields.{UsesFirst}
use Rattle.roots.specs.inside.Reading.{values_at}

-- each value that fits is encoded in `step` bytes, and read back from the front of any bytes
pub record IsReadAgain {A : Type 0} (read : List ℕ → A) (spell : A → List ℕ) (step : ℕ) (Fits : A → Type 0) : Type 0 where
  pub len : (x : A) → length (spell x) ≡ step
  pub again : (x : A) (rest : List ℕ) → Fits x → read (spell x ++ rest) ≡ x

pub length-pieces : {A : Type 0} (spell : A → List ℕ) (step : ℕ) → ((x : A) → length (spell x) ≡ step) → (xs : List A) → length (flat_map spell xs) ≡ step * length xs
length-pieces spell step len [] = omega arith
length-pieces spell step len (x ∷ xs) = omega (arith, length-append (spell x) (flat_map spell xs), len x, length-pieces spell step len xs)

drop-pieces : {A : Type 0} (spell : A → List ℕ) (step : ℕ) → ((x : A) → length (spell x) ≡ step) → (k : ℕ) (xs : List A) (rest : List ℕ) → k ≤ length xs
    → drop (step * k) (flat_map spell xs ++ rest) ≡ flat_map spell (drop k xs) ++ rest
drop-pieces spell step len zero xs rest inside = let none : step * 0 ≡ 0 = omega arith in ap (λ n. drop n (flat_map spell xs ++ rest)) none
drop-pieces spell step len (suc k) [] rest inside = absurd (omega arith)
drop-pieces spell step len (suc k) (x ∷ xs) rest inside =
    let others = flat_map spell xs ++ rest in
    let more : step * suc k ≡ step + step * k = omega arith in
    let first : drop step (flat_map spell (x ∷ xs) ++ rest) ≡ others =
    ap (drop step) (append_assoc (spell x) (flat_map spell xs) rest) ∙ drop_at (spell x) others step (len x) in
    ap (λ n. drop n (flat_map spell (x ∷ xs) ++ rest)) more
    ∙ sym (drop-drop (step * k) step (flat_map spell (x ∷ xs) ++ rest))
    ∙ ap (drop (step * k)) first
    ∙ drop-pieces spell step len k xs rest (omega arith)

-- a list that is encoded from byte `at` on is read back
pub values_at-pieces : {A : Type 0} (read : List ℕ → A) (spell : A → List ℕ) (step : ℕ) (Fits : A → Type 0) → IsReadAgain read spell step Fits
    → (front : List ℕ) (xs : List A) (rest : List ℕ) (n at : ℕ) (d : A) → length front ≡ at → length xs ≡ n → All Fits xs
    → values_at read step n at (front ++ flat_map spell xs ++ rest) ≡ xs
unfolding values_at
values_at-pieces read spell step Fits law front xs rest n at d front_len len fits =
    let bytes = front ++ flat_map spell xs ++ rest in
    sym (fill_by_all (λ k. read (drop (at + step * k) bytes)) xs n d len (λ k below.
    let inside : k < length xs = omega arith in
    let behind : drop at bytes ≡ flat_map spell xs ++ rest = ap (drop at) (append_assoc front (flat_map spell xs) rest) ∙ drop_at front (flat_map spell xs ++ rest) at front_len in
    let here : drop (at + step * k) bytes ≡ flat_map spell (drop k xs) ++ rest =
    sym (drop-drop (step * k) at bytes) ∙ ap (drop (step * k)) behind ∙ drop-pieces spell step law.len k xs rest (omega arith) in
    let split : flat_map spell (drop k xs) ++ rest ≡ spell (get_or xs k d) ++ (flat_map spell (drop (k + 1) xs) ++ rest) =
    ap (λ ys. flat_map spell ys ++ rest) (drop_more xs k d inside) ∙ append_assoc (spell (get_or xs k d)) (flat_map spell (drop (k + 1) xs)) rest in
    sym (ap read (here ∙ split) ∙ law.again (get_or xs k d) (flat_map spell (drop (k + 1) xs) ++ rest) (All-get_or Fits xs k d inside fits))))

-- what holds for each used value and for an unused one holds for all
pub All-uses_first : {A : Type 0} (places count : ℕ) (Fits Q : A → Type 0) (unused : A) (values : List A) → UsesFirst places count Fits unused values
    → ((x : A) → Fits x → Q x) → Q unused → All Q values
All-uses_first places count Fits Q unused values uses weaker none =
    subst (All Q) (take-append-drop count values)
    (All-append Q (take count values) (drop count values)
    (All-weaker Fits Q weaker (take count values) uses.used)
    (All-weaker (λ value. value ≡ unused) Q (λ x is. subst Q (sym is) none) (drop count values) uses.rest))
