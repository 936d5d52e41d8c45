-- Texts that have room in a buffer, part by part.
use Rattle.std.proofs.Common.{◌≡◌, ℕ, ◌+◌, ◌<◌, List, [], ◌∷◌, ◌++◌, length, take, drop, slice_index_or, sym, ap, ◌∙◌, arith, append_assoc, append-nil, take-append-drop, subst, Result, Ok, Err}
use Rattle.std.proofs.lemmas.Grind.{flat_map-append}
use Rattle.std.proofs.lemmas.List.{drop_more, take_more, length-append}
use Rattle.std.specs.List.{flat_map}
use Rattle.std.specs.Result.{OnOk}
use Rattle.text_output.specs.Sends.{Buffered, HasRoom, with_text}

-- if a text has room, the next part of it has room after the parts before it
pub room-next : (size : ℕ) (b : Buffered) (text front next rest : List ℕ) → text ≡ front ++ (next ++ rest) → HasRoom size b text → HasRoom size (with_text b front) next
room-next size b text front next rest e h =
    let whole : length text ≡ length front + (length next + length rest) =
    ap length e ∙ length-append front (next ++ rest) ∙ ap (λ n. length front + n) (length-append next rest) in
    let waits : length (b.waiting ++ front) ≡ length b.waiting + length front = length-append b.waiting front in
    omega (arith, h, whole, waits)

-- adding two texts, one after the other, is adding them as one text
pub with-two : (b : Buffered) (front next : List ℕ) → with_text (with_text b front) next ≡ with_text b (front ++ next)
with-two b front next = ap (λ (l : List ℕ). record { waiting = l; failed = b.failed }) (append_assoc b.waiting front next)

-- the text of a list is that of the elements before i, of element i, and of the elements after it
pub cut-at : (f : ℕ → List ℕ) (xs : List ℕ) (i d : ℕ) → i < length xs → flat_map f xs ≡ flat_map f (take i xs) ++ (f (slice_index_or xs i d) ++ flat_map f (drop (i + 1) xs))
cut-at f xs i d h =
    ap (flat_map f) (sym (take-append-drop i xs)) ∙ flat_map-append f (take i xs) (drop i xs)
    ∙ ap (λ l. flat_map f (take i xs) ++ flat_map f l) (drop_more xs i d h)

-- the text of the first i + 1 elements is that of the first i, followed by that of element i
pub one-more : (f : ℕ → List ℕ) (xs : List ℕ) (i d : ℕ) → i < length xs → flat_map f (take (i + 1) xs) ≡ flat_map f (take i xs) ++ f (slice_index_or xs i d)
one-more f xs i d h =
    let x = slice_index_or xs i d in
    ap (flat_map f) (take_more xs i d h) ∙ flat_map-append f (take i xs) (x ∷ []) ∙ ap (λ l. flat_map f (take i xs) ++ l) (append-nil (f x))

-- adding the empty text changes nothing
pub with-nothing : (b : Buffered) → b ≡ with_text b []
with-nothing b = ap (λ (l : List ℕ). record { waiting = l; failed = b.failed }) (sym (append-nil b.waiting))

-- a result can't be both a success and a fault
pub not-both : {T E : Type 0} (r : Result T E) (t : T) (e : E) → r ≡ Ok t → r ≡ Err e → ⊥
not-both r t e p q = subst (λ r. OnOk r ⊥) (sym q ∙ p) tt

-- if P follows from a success, and Q from P, Q follows from the success
pub on-ok : {T E : Type 0} (r : Result T E) {P Q : Type 0} → (P → Q) → OnOk r P → OnOk r Q
on-ok (Ok t) f p = f p
on-ok (Err e) f p = tt
