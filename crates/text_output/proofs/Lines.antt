-- Lines of bytes in hexadecimal, one after the other.
use Rattle.std.proofs.Common.{◌≡◌, ℕ, ◌+◌, ◌*◌, ◌/◌, ◌%◌, ◌<◌, ◌==◌, false, List, [], ◌∷◌, ◌++◌, length, take, drop, slice_index_or, sym, ap, ◌∙◌}
use Rattle.std.proofs.Common.{arith, suc, zero, zero-add, add-zero, append-nil, refl}
use Rattle.std.proofs.lemmas.Bool.{eqb-false}
use Rattle.std.proofs.lemmas.Grind.{flat_map-append}
use Rattle.std.proofs.lemmas.List.{drop-drop, take_all}
use Rattle.std.specs.List.{flat_map, range_with_len}
use Rattle.std.specs.Simd.{first_chunks}
use Rattle.hex.specs.Hex.{encode_lower}
use Rattle.text_output.specs.Hexadecimal.{line_at, first_lines, line_count, hex_lines}

-- a range of m + n numbers is the range of the first m, followed by that of the other n
pub range-split : (a m n : ℕ) → range_with_len a (m + n) ≡ range_with_len a m ++ range_with_len (a + m) n
range-split a zero n = ap (range_with_len a) (zero-add n) ∙ ap (λ b. range_with_len b n) (sym (add-zero a))
range-split a (suc m) n =
    let e : suc m + n ≡ suc (m + n) = omega arith in
    let f : a + 1 + m ≡ a + suc m = omega arith in
    ap (range_with_len a) e ∙ ap (λ t. a ∷ t) (range-split (a + 1) m n ∙ ap (λ b. range_with_len (a + 1) m ++ range_with_len b n) f)

-- the text of m + 1 lines is the text of the first m, followed by line number m
pub lines-more : (f : ℕ → List ℕ) (m : ℕ) → flat_map f (range_with_len 0 (m + 1)) ≡ flat_map f (range_with_len 0 m) ++ f m
lines-more f m =
    ap (flat_map f) (range-split 0 m 1) ∙ flat_map-append f (range_with_len 0 m) (range_with_len (0 + m) 1)
    ∙ ap (λ k. flat_map f (range_with_len 0 m) ++ flat_map f (range_with_len k 1)) (zero-add m)
    ∙ ap (λ t. flat_map f (range_with_len 0 m) ++ t) (append-nil (f m))

-- chunk number i of the whole chunks of 16 bytes is the 16 bytes at offset 16 i
pub chunk-at : (n i : ℕ) (bytes d : List ℕ) → i < n → slice_index_or (first_chunks 16 n bytes) i d ≡ take 16 (drop (16 * i) bytes)
chunk-at zero i bytes d h = absurd (omega arith)
chunk-at (suc n) zero bytes d h = refl
chunk-at (suc n) (suc i) bytes d h =
    let e : 16 + 16 * i ≡ 16 * suc i = omega arith in
    chunk-at n i (drop 16 bytes) d (omega arith) ∙ ap (take 16) (drop-drop (16 * i) 16 bytes ∙ ap (λ k. drop k bytes) e)

-- the text of whole chunk number i is line number i
pub line-of : (lines : List (List ℕ)) (n i : ℕ) (bytes d : List ℕ) → lines ≡ first_chunks 16 n bytes → i < n
    → encode_lower (slice_index_or lines i d) ++ 10 ∷ [] ≡ line_at bytes i
line-of lines n i bytes d e h =
    ap (λ l. encode_lower l ++ 10 ∷ []) (ap (λ (l : List (List ℕ)). slice_index_or l i d) e ∙ chunk-at n i bytes d h)

-- if the length is a multiple of 16, the whole lines are all lines
pub whole-lines : (bytes : List ℕ) (i : ℕ) → i ≡ length bytes / 16 → length bytes % 16 ≡ 0 → first_lines bytes i ≡ hex_lines bytes
whole-lines bytes i e r =
    let k : i ≡ line_count bytes = omega (arith, e, r) in
    ap (first_lines bytes) k

-- if bytes are left after the whole lines, their line is the last one
pub last-line : (bytes rest : List ℕ) (i : ℕ) → i ≡ length bytes / 16 → 0 < length bytes % 16 → rest ≡ drop (length bytes / 16 * 16) bytes
    → length rest ≡ length bytes % 16 → first_lines bytes i ++ (encode_lower rest ++ 10 ∷ []) ≡ hex_lines bytes
last-line bytes rest i e r d n =
    let k : i + 1 ≡ line_count bytes = omega (arith, e, r) in
    let at : length bytes / 16 * 16 ≡ 16 * i = omega (arith, e) in
    let cut : rest ≡ take 16 (drop (16 * i) bytes) = sym (take_all 16 rest (omega (arith, n))) ∙ ap (take 16) (d ∙ ap (λ j. drop j bytes) at) in
    ap (λ l. first_lines bytes i ++ (encode_lower l ++ 10 ∷ [])) cut ∙ sym (lines-more (line_at bytes) i) ∙ ap (first_lines bytes) k

-- a list of length 0 is empty
pub no-length : (xs : List ℕ) → length xs ≡ 0 → xs ≡ []
no-length [] h = refl
no-length (x ∷ xs) h = absurd (omega (arith, h))

-- a number that isn't equal to 0 is greater than 0
pub not-zero : (n : ℕ) → (n == 0) ≡ false → 0 < n
not-zero zero h = absurd (eqb-false 0 0 h refl)
not-zero (suc n) h = omega arith
