-- There is only one way to divide a text into lines.
use Rattle.std.proofs.Common.{◌≡◌, ℕ, List, [], ◌∷◌, ◌++◌, append_assoc, refl, sym, ap, subst, ◌∙◌, inl, inr}
use Rattle.std.specs.Prelude.{◌≢◌, ◌⊎◌, All}
use Rattle.std.specs.List.{flat_map}
use Rattle.std.proofs.lemmas.List.Elements.{All-head, All-push, All-tail}
use Rattle.scripts.specs.Line.{IsLine, ended}
use Rattle.updates.proofs.Texts.{flat_more}

head_or : {X : Type 0} → X → List X → X
head_or d [] = d
head_or d (x ∷ xs) = x

tail_of : {X : Type 0} → List X → List X
tail_of [] = []
tail_of (x ∷ xs) = xs

-- if two lists are equal, so are their first items and the rests
pub same_head : {X : Type 0} (x y : X) (xs ys : List X) → x ∷ xs ≡ y ∷ ys → x ≡ y
unfolding head_or
same_head x y xs ys h = ap (head_or x) h

pub same_tail : {X : Type 0} (x y : X) (xs ys : List X) → x ∷ xs ≡ y ∷ ys → xs ≡ ys
unfolding tail_of
same_tail x y xs ys h = ap tail_of h

-- the empty list has no item
pub no_more : {X : Type 0} (front back : List X) (x : X) → [] ≡ front ++ x ∷ back → ⊥
no_more [] back x h = cc h
no_more (y ∷ front) back x h = cc h

-- if two texts are equal, so are their first lines and the rests after these
first_line : (a b c d : List ℕ) → IsLine a → IsLine b → a ++ 10 ∷ c ≡ b ++ 10 ∷ d → (a ≡ b) × (c ≡ d)
first_line [] [] c d la lb h = (refl, same_tail 10 10 c d h)
first_line [] (y ∷ b) c d la lb h = absurd (All-head (λ b. b ≢ 10) y b lb (sym (same_head 10 y c (b ++ 10 ∷ d) h)))
first_line (x ∷ a) [] c d la lb h = absurd (All-head (λ b. b ≢ 10) x a la (same_head x 10 (a ++ 10 ∷ c) d h))
first_line (x ∷ a) (y ∷ b) c d la lb h =
    let rest = first_line a b c d (All-tail (λ b. b ≢ 10) x a la) (All-tail (λ b. b ≢ 10) y b lb) (same_tail x y (a ++ 10 ∷ c) (b ++ 10 ∷ d) h) in
    (ap (λ z. z ∷ a) (same_head x y (a ++ 10 ∷ c) (b ++ 10 ∷ d) h) ∙ ap (λ l. y ∷ l) rest.0, rest.1)

-- bytes with a newline among them aren't a line
no_newline_in : (a c : List ℕ) → IsLine (a ++ 10 ∷ c) → ⊥
no_newline_in [] c h = All-head (λ b. b ≢ 10) 10 c h refl
no_newline_in (x ∷ a) c h = no_newline_in a c (All-tail (λ b. b ≢ 10) x (a ++ 10 ∷ c) h)

-- a line with its newline and the rest, followed by more bytes, is the line, the newline, and the rest
-- with these bytes
ended_more : (line rest cut : List ℕ) → (ended line ++ rest) ++ cut ≡ line ++ 10 ∷ (rest ++ cut)
ended_more [] rest cut = refl
ended_more (x ∷ line) rest cut = ap (λ l. x ∷ l) (ended_more line rest cut)

-- if a text is divided into lines and a rest after the last newline in two ways, both have the same
-- lines and the same rest
pub one_reading : (lines : List (List ℕ)) (tail : List ℕ) → All IsLine lines → IsLine tail → (others : List (List ℕ)) (cut : List ℕ) → All IsLine others → IsLine cut
    → flat_map ended lines ++ tail ≡ flat_map ended others ++ cut → (others ≡ lines) × (cut ≡ tail)
one_reading [] tail l t [] cut w c h = (refl, sym h)
one_reading [] tail l t (w ∷ ws) cut all c h = absurd (no_newline_in w (flat_map ended ws ++ cut) (subst IsLine (h ∙ ended_more w (flat_map ended ws) cut) t))
one_reading (x ∷ lines) tail l t [] cut w c h = absurd (no_newline_in x (flat_map ended lines ++ tail) (subst IsLine (sym h ∙ ended_more x (flat_map ended lines) tail) c))
one_reading (x ∷ lines) tail l t (w ∷ ws) cut all c h =
    let both = first_line x w (flat_map ended lines ++ tail) (flat_map ended ws ++ cut) (All-head IsLine x lines l) (All-head IsLine w ws all)
    (sym (ended_more x (flat_map ended lines) tail) ∙ h ∙ ended_more w (flat_map ended ws) cut) in
    let rest = one_reading lines tail (All-tail IsLine x lines l) t ws cut (All-tail IsLine w ws all) c both.1 in
    (ap (λ z. z ∷ ws) (sym both.0) ∙ ap (λ l. x ∷ l) rest.0, rest.1)

-- if a text begins with whole lines, these are the first of its lines
pub front_lines : (lines : List (List ℕ)) (tail : List ℕ) → All IsLine lines → IsLine tail → (others : List (List ℕ)) (rest : List ℕ) → All IsLine others
    → flat_map ended lines ++ tail ≡ flat_map ended others ++ rest → (more : List (List ℕ)) × (lines ≡ others ++ more)
front_lines lines tail l t [] rest all h = (lines, refl)
front_lines [] tail l t (w ∷ ws) rest all h = absurd (no_newline_in w (flat_map ended ws ++ rest) (subst IsLine (h ∙ ended_more w (flat_map ended ws) rest) t))
front_lines (x ∷ lines) tail l t (w ∷ ws) rest all h =
    let both = first_line x w (flat_map ended lines ++ tail) (flat_map ended ws ++ rest) (All-head IsLine x lines l) (All-head IsLine w ws all)
    (sym (ended_more x (flat_map ended lines) tail) ∙ h ∙ ended_more w (flat_map ended ws) rest) in
    let so = front_lines lines tail (All-tail IsLine x lines l) t ws rest (All-tail IsLine w ws all) both.1 in
    (so.0, ap (λ z. z ∷ lines) both.0 ∙ ap (λ ls. w ∷ ls) so.1)

-- if a text begins with whole lines and one more line, these are the first of its lines
pub line_behind : (all : List (List ℕ)) (tail : List ℕ) → All IsLine all → IsLine tail → (lines : List (List ℕ)) (line others : List ℕ) → All IsLine lines → IsLine line
    → flat_map ended all ++ tail ≡ flat_map ended lines ++ ended line ++ others → (more : List (List ℕ)) × (all ≡ lines ++ line ∷ more)
line_behind all tail each t lines line others ls l is =
    let so = front_lines all tail each t (lines ++ line ∷ []) others (All-push IsLine lines line ls l) (is ∙ ap (λ text. text ++ others) (sym (flat_more ended lines line))) in
    (so.0, so.1 ∙ append_assoc lines (line ∷ []) so.0)

-- an item of a list is its last one, or an earlier one
pub last_or_before : {X : Type 0} (xs : List X) (last : X) (ys : List X) (y : X) (more : List X) → xs ++ last ∷ [] ≡ ys ++ y ∷ more
    → ((xs ≡ ys) × (last ≡ y)) ⊎ ((rest : List X) × (xs ≡ ys ++ y ∷ rest))
last_or_before [] last [] y more h = inl (refl, same_head last y [] more h)
last_or_before [] last (z ∷ ys) y more h = absurd (no_more ys more y (same_tail last z [] (ys ++ y ∷ more) h))
last_or_before (x ∷ xs) last [] y more h = inr (xs, ap (λ z. z ∷ xs) (same_head x y (xs ++ last ∷ []) more h))
last_or_before {X = X} (x ∷ xs) last (z ∷ ys) y more h =
    by (last_or_before xs last ys y more (same_tail x z (xs ++ last ∷ []) (ys ++ y ∷ more) h)) (same_head x z (xs ++ last ∷ []) (ys ++ y ∷ more) h)
  where
    by : ((xs ≡ ys) × (last ≡ y)) ⊎ ((rest : List X) × (xs ≡ ys ++ y ∷ rest)) → x ≡ z
        → ((x ∷ xs ≡ z ∷ ys) × (last ≡ y)) ⊎ ((rest : List X) × (x ∷ xs ≡ z ∷ ys ++ y ∷ rest))
    by (inl so) is = inl (ap (λ w. w ∷ xs) is ∙ ap (λ l. z ∷ l) so.0, so.1)
    by (inr so) is = inr (so.0, ap (λ w. w ∷ xs) is ∙ ap (λ l. z ∷ l) so.1)
