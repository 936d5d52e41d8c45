-- Bytes without the zeros at their end, and finished pieces.
use Rattle.std.proofs.Common.{◌≡◌, ℕ, ◌-◌, ◌<◌, ◌≤◌, ◌≢◌, Bool, true, false, cond, List, [], ◌∷◌, ◌++◌, length, get_or, take, refl, sym, ap, ◌∙◌, arith, suc, zero}
use Rattle.std.specs.Prelude.{◌==◌, ◌&&◌}
use Rattle.std.proofs.Math.Seq.{take-suc}
use Rattle.std.proofs.lemmas.Grind.{common_steps}
use Rattle.std.proofs.lemmas.Bool.Decides.{nat_tests}
use Rattle.image.specs.Constant.{PF_W}
use Rattle.image.specs.Loading.{Loaded}
use Rattle.std.specs.Int.RustNames.{bit_and}
use Rattle.executable.specs.Piece.{without_zeros, finished}

nothing : {X : Type 0} (xs : List X) → (length xs == 0) ≡ true → xs ≡ []
nothing [] e = refl
nothing (x ∷ xs) e = absurd (grind (arith, nat_tests))

zeros-by : (b : ℕ) (kept rest : List ℕ) (i : ℕ) (t u : Bool) → (b == 0) ≡ t → (length kept == 0) ≡ u
    → ((j : ℕ) → get_or kept j 0 ≡ get_or rest j 0) → get_or (cond (t && u) [] (b ∷ kept)) i 0 ≡ get_or (b ∷ rest) i 0
zeros-by b kept rest zero true true e f ih = sym (grind (arith, nat_tests))
zeros-by b kept rest (suc i) true true e f ih = sym (sym (ih i) ∙ ap (λ xs. get_or xs i 0) (nothing kept f))
zeros-by b kept rest zero true false e f ih = refl
zeros-by b kept rest (suc i) true false e f ih = ih i
zeros-by b kept rest zero false u e f ih = refl
zeros-by b kept rest (suc i) false u e f ih = ih i

-- the bytes with and without the zeros at the end are the same at every index, because an index past the
-- end reads as 0
pub get_or-without_zeros : (bytes : List ℕ) (i : ℕ) → get_or (without_zeros bytes) i 0 ≡ get_or bytes i 0
get_or-without_zeros [] i = refl
get_or-without_zeros (b ∷ rest) i =
    zeros-by b (without_zeros rest) rest i (b == 0) (length (without_zeros rest) == 0) refl refl (λ j. get_or-without_zeros rest j)

shorter-by : (b : ℕ) (kept : List ℕ) (n : ℕ) (t : Bool) → length kept ≤ n → length (cond t [] (b ∷ kept)) ≤ suc n
shorter-by b kept n true h = omega arith
shorter-by b kept n false h = omega (arith, h)

-- without the zeros at the end, there are no more bytes than before
pub length-without_zeros : (bytes : List ℕ) → length (without_zeros bytes) ≤ length bytes
length-without_zeros [] = omega arith
length-without_zeros (b ∷ rest) =
    shorter-by b (without_zeros rest) (length rest) ((b == 0) && (length (without_zeros rest) == 0)) (length-without_zeros rest)

kept-end-by : (b x : ℕ) (kept rest : List ℕ) (t : Bool) → kept ≡ rest ++ x ∷ [] → cond (t && (length kept == 0)) [] (b ∷ kept) ≡ b ∷ rest ++ x ∷ []
kept-end-by b x kept rest false e = ap (λ xs. b ∷ xs) e
kept-end-by b x kept rest true e =
    let f : (length kept == 0) ≡ false = grind (arith, common_steps, nat_tests) in
    ap (λ u. cond u [] (b ∷ kept)) f ∙ ap (λ xs. b ∷ xs) e

last-by : (x : ℕ) (t : Bool) → (x == 0) ≡ t → (t ≡ false) → without_zeros (x ∷ []) ≡ x ∷ []
last-by x t e f = ap (λ u. cond (u && true) [] (x ∷ [])) (e ∙ f)

-- if the last byte isn't 0, all bytes stay
pub without_zeros-other : (bytes : List ℕ) (x : ℕ) → (x == 0) ≡ false → without_zeros (bytes ++ x ∷ []) ≡ bytes ++ x ∷ []
without_zeros-other [] x e = last-by x (x == 0) refl e
without_zeros-other (b ∷ rest) x e = kept-end-by b x (without_zeros (rest ++ x ∷ [])) rest (b == 0) (without_zeros-other rest x e)

-- a zero at the end makes no difference
pub without_zeros-zero : (bytes : List ℕ) → without_zeros (bytes ++ 0 ∷ []) ≡ without_zeros bytes
without_zeros-zero [] = refl
without_zeros-zero (b ∷ rest) =
    ap (λ kept. cond ((b == 0) && (length kept == 0)) [] (b ∷ kept)) (without_zeros-zero rest)

finished-by : (p : Loaded) (t : Bool) → (cond t (let q : Loaded = record { heading = p.heading; contents = without_zeros p.contents } in q) p).heading ≡ p.heading
finished-by p true = refl
finished-by p false = refl

-- a finished piece has the same heading
pub finished-heading : (p : Loaded) → (finished p).heading ≡ p.heading
finished-heading p = finished-by p (bit_and p.heading.permissions PF_W == PF_W)

finished-byte-by : (p : Loaded) (i : ℕ) (t : Bool)
    → get_or (cond t (let q : Loaded = record { heading = p.heading; contents = without_zeros p.contents } in q) p).contents i 0 ≡ get_or p.contents i 0
finished-byte-by p i true = get_or-without_zeros p.contents i
finished-byte-by p i false = refl

-- a finished piece has the same byte at each index, and no more contents
pub finished-byte : (p : Loaded) (i : ℕ) → get_or (finished p).contents i 0 ≡ get_or p.contents i 0
finished-byte p i = finished-byte-by p i (bit_and p.heading.permissions PF_W == PF_W)

finished-length-by : (p : Loaded) (n : ℕ) (t : Bool) → length p.contents ≤ n
    → length (cond t (let q : Loaded = record { heading = p.heading; contents = without_zeros p.contents } in q) p).contents ≤ n
finished-length-by p n true h = omega (arith, length-without_zeros p.contents)
finished-length-by p n false h = h

pub finished-length : (p : Loaded) (n : ℕ) → length p.contents ≤ n → length (finished p).contents ≤ n
finished-length p n h = finished-length-by p n (bit_and p.heading.permissions PF_W == PF_W) h

one-more : (bytes : List ℕ) (n : ℕ) → 0 < n → n ≤ length bytes → take n bytes ≡ take (n - 1) bytes ++ get_or bytes (n - 1) 0 ∷ []
one-more bytes n some h =
    let e : n ≡ suc (n - 1) = omega arith in
    ap (λ k. take k bytes) e ∙ take-suc bytes (n - 1) 0 (omega arith)

-- if the last of the first n bytes is 0, the first n - 1 bytes without their zeros at the end are the
-- same
pub zero-step : (bytes : List ℕ) (n : ℕ) → 0 < n → n ≤ length bytes → get_or bytes (n - 1) 0 ≡ 0 → without_zeros (take (n - 1) bytes) ≡ without_zeros (take n bytes)
zero-step bytes n some h e =
    sym (ap without_zeros (one-more bytes n some h ∙ ap (λ b. take (n - 1) bytes ++ b ∷ []) e) ∙ without_zeros-zero (take (n - 1) bytes))

-- if the last of the first n bytes isn't 0, the first n bytes have no zeros at the end
pub other-step : (bytes : List ℕ) (n : ℕ) → 0 < n → n ≤ length bytes → get_or bytes (n - 1) 0 ≢ 0 → without_zeros (take n bytes) ≡ take n bytes
other-step bytes n some h e =
    ap without_zeros (one-more bytes n some h)
    ∙ without_zeros-other (take (n - 1) bytes) (get_or bytes (n - 1) 0) (grind (arith, nat_tests))
    ∙ sym (one-more bytes n some h)
