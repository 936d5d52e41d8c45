-- Lines of zeros, by themselves and after other lines.
use Rattle.std.proofs.Common.{◌≡◌, ℕ, ◌+◌, ◌-◌, ◌*◌, ◌/◌, ◌%◌, ◌<◌, ◌≤◌, List, [], ◌∷◌, ◌++◌, length, take, drop, slice_index_or}
use Rattle.std.proofs.Common.{sym, ap, ◌∙◌, arith, suc, zero, append-nil, refl, Option, Some, None, ◌⊎◌, inl, inr, append_assoc, min}
use Rattle.std.specs.Prelude.{replicate}
use Rattle.std.proofs.lemmas.Bool.{cases_lt}
use Rattle.std.proofs.Math.Seq.{drop-append-add, take-append-add}
use Rattle.std.proofs.lemmas.List.{length-append, length-drop, length-take, drop-drop, take-append-drop, take-append-le, drop-append-le, replicate-append-replicate, length-replicate, take-replicate}
use Rattle.std.specs.List.{flat_map, range_with_len}
use Rattle.std.specs.Simd.{first_chunks}
use Rattle.std.proofs.lemmas.Grind.{flat_map-append}
use Rattle.std.specs.Io.KnownBytes.{Appends, append_known}
use Rattle.hex.specs.Hex.{encode_lower, encode_with}
use Rattle.text_output.specs.Hexadecimal.{line_at, first_lines, line_count, hex_lines}
use Rattle.text_output.proofs.Lines.{range-split}

-- two ranges have the same text if each pair of their elements has the same text
flat_map-moved : (f g : ℕ → List ℕ) (a b n : ℕ) → ((k : ℕ) → k < n → f (a + k) ≡ g (b + k)) → flat_map f (range_with_len a n) ≡ flat_map g (range_with_len b n)
flat_map-moved f g a b zero h = refl
flat_map-moved f g a b (suc n) h =
    let here : f a ≡ g b = ap f (let e : a ≡ a + 0 = omega arith in e) ∙ h 0 (omega arith) ∙ ap g (let e : b + 0 ≡ b = omega arith in e) in
    let rest = flat_map-moved f g (a + 1) (b + 1) n
    (λ k l. ap f (let e : a + 1 + k ≡ a + suc k = omega arith in e) ∙ h (suc k) (omega (arith, l)) ∙ ap g (let e : b + suc k ≡ b + 1 + k = omega arith in e)) in
    ap (λ l. l ++ flat_map f (range_with_len (a + 1) n)) here ∙ ap (λ l. g b ++ l) rest

-- a whole line of `a` is also a line of `a` followed by `b`
line-front : (a b : List ℕ) (k : ℕ) → 16 * k + 16 ≤ length a → line_at (a ++ b) k ≡ line_at a k
line-front a b k h =
    ap (λ l. encode_lower (take 16 l) ++ 10 ∷ []) (drop-append-le (16 * k) a b (omega (arith, h)))
    ∙ ap (λ l. encode_lower l ++ 10 ∷ []) (take-append-le 16 (drop (16 * k) a) b (omega (arith, length-drop (16 * k) a, h)))

-- if `a` has n whole lines, line n + k of `a` followed by `b` is line k of `b`
line-back : (a b : List ℕ) (n k : ℕ) → length a ≡ 16 * n → line_at (a ++ b) (n + k) ≡ line_at b k
line-back a b n k e =
    let at : 16 * (n + k) ≡ length a + 16 * k = omega (arith, e) in
    ap (λ l. encode_lower (take 16 l) ++ 10 ∷ []) (ap (λ j. drop j (a ++ b)) at ∙ drop-append-add a b (16 * k))

-- if `a` has n whole lines, the lines of `a` followed by `b` are those of `a`, followed by those of `b`
pub hex_lines-append : (a b : List ℕ) (n : ℕ) → length a ≡ 16 * n → hex_lines (a ++ b) ≡ hex_lines a ++ hex_lines b
hex_lines-append a b n e =
    let all : line_count (a ++ b) ≡ n + line_count b = omega (arith, length-append a b, e) in
    let own : n ≡ line_count a = omega (arith, e) in
    let front = flat_map-moved (line_at (a ++ b)) (line_at a) 0 0 n
    (λ k l. ap (line_at (a ++ b)) (let z : 0 + k ≡ k = omega arith in z) ∙ line-front a b k (omega (arith, e, l)) ∙ ap (line_at a) (let z : k ≡ 0 + k = omega arith in z)) in
    let back = flat_map-moved (line_at (a ++ b)) (line_at b) (0 + n) 0 (line_count b)
    (λ k l. ap (line_at (a ++ b)) (let z : 0 + n + k ≡ n + k = omega arith in z) ∙ line-back a b n k e ∙ ap (line_at b) (let z : k ≡ 0 + k = omega arith in z)) in
    ap (first_lines (a ++ b)) all ∙ ap (flat_map (line_at (a ++ b))) (range-split 0 n (line_count b))
    ∙ flat_map-append (line_at (a ++ b)) (range_with_len 0 n) (range_with_len (0 + n) (line_count b))
    ∙ ap (λ l. l ++ flat_map (line_at (a ++ b)) (range_with_len (0 + n) (line_count b))) (front ∙ ap (first_lines a) own)
    ∙ ap (λ l. hex_lines a ++ l) back

-- n whole lines of zeros
abbrev pub zero_lines : ℕ → List ℕ
zero_lines n = hex_lines (replicate (16 * n) 0)

pub zero_lines-and : (n k : ℕ) → zero_lines n ++ hex_lines (replicate k 0) ≡ hex_lines (replicate (16 * n + k) 0)
zero_lines-and n k =
    sym (hex_lines-append (replicate (16 * n) 0) (replicate k 0) n (length-replicate (16 * n) 0))
    ∙ ap hex_lines (replicate-append-replicate (16 * n) k 0)

pub zero_lines-more : (n m : ℕ) → zero_lines n ++ zero_lines m ≡ zero_lines (n + m)
zero_lines-more n m = zero_lines-and n (16 * m) ∙ ap (λ k. hex_lines (replicate k 0)) (let e : 16 * n + 16 * m ≡ 16 * (n + m) = omega arith in e)

-- the text of sixteen zeros and a newline is one line of zeros
pub one-line : encode_lower (replicate 16 0) ++ 10 ∷ [] ≡ zero_lines 1
one-line = sym (append-nil (encode_lower (replicate 16 0) ++ 10 ∷ []))

length-one : length (zero_lines 1) ≡ 33
unfolding encode_with
length-one = refl

-- n lines of zeros have 33 bytes of text each
pub length-zero_lines : (n : ℕ) → length (zero_lines n) ≡ 33 * n
length-zero_lines zero = refl
length-zero_lines (suc n) =
    let more : zero_lines n ++ zero_lines 1 ≡ zero_lines (suc n) = zero_lines-more n 1 ∙ ap zero_lines (let e : n + 1 ≡ suc n = omega arith in e) in
    omega (arith, ap length more, length-append (zero_lines n) (zero_lines 1), length-zero_lines n, length-one)

-- the lines of bytes are those of the front, the lines of zeros after it, and the line of the rest
pub lines-in-three : (bytes lines rest front : List ℕ) (n : ℕ) → lines ++ rest ≡ bytes → length lines % 16 ≡ 0 → n ≤ length lines → n % 16 ≡ 0
    → front ≡ take n lines → drop n lines ≡ replicate (length lines - n) 0
    → (hex_lines front ++ zero_lines ((length lines - n) / 16)) ++ hex_lines rest ≡ hex_lines bytes
lines-in-three bytes lines rest front n all whole h first is e =
    let size : length (take n lines) ≡ 16 * (n / 16) = omega (arith, length-take n lines, h, first) in
    let zeros : 16 * ((length lines - n) / 16) ≡ length lines - n = omega (arith, whole, h, first) in
    let lines_size : length lines ≡ 16 * (length lines / 16) = omega (arith, whole) in
    ap (λ l. (hex_lines l ++ zero_lines ((length lines - n) / 16)) ++ hex_lines rest) is
    ∙ ap (λ k. (hex_lines (take n lines) ++ hex_lines (replicate k 0)) ++ hex_lines rest) zeros
    ∙ ap (λ l. (hex_lines (take n lines) ++ hex_lines l) ++ hex_lines rest) (sym e)
    ∙ ap (λ l. l ++ hex_lines rest) (sym (hex_lines-append (take n lines) (drop n lines) (n / 16) size) ∙ ap hex_lines (take-append-drop n lines))
    ∙ sym (hex_lines-append lines rest (length lines / 16) lines_size) ∙ ap hex_lines all

-- block number i of the whole blocks of 64 bytes is the 64 bytes at offset 64 i
block-at : (n i : ℕ) (bytes d : List ℕ) → i < n → slice_index_or (first_chunks 64 n bytes) i d ≡ take 64 (drop (64 * i) bytes)
block-at zero i bytes d h = absurd (omega arith)
block-at (suc n) zero bytes d h = refl
block-at (suc n) (suc i) bytes d h =
    let e : 64 + 64 * i ≡ 64 * suc i = omega arith in
    block-at n i (drop 64 bytes) d (omega arith) ∙ ap (take 64) (drop-drop (64 * i) 64 bytes ∙ ap (λ k. drop k bytes) e)

-- if a block has only zeros, the 64 bytes at its offset are zeros
pub zero-block : (blocks : List (List ℕ)) (n i : ℕ) (bytes d : List ℕ) → blocks ≡ first_chunks 64 n bytes → i < n → 64 * n ≤ length bytes
    → slice_index_or blocks i d ≡ replicate (length (slice_index_or blocks i d)) 0 → take 64 (drop (64 * i) bytes) ≡ replicate 64 0
zero-block blocks n i bytes d e h fits z =
    let block = take 64 (drop (64 * i) bytes) in
    let is : slice_index_or blocks i d ≡ block = ap (λ (l : List (List ℕ)). slice_index_or l i d) e ∙ block-at n i bytes d h in
    let size : length block ≡ 64 = omega (arith, length-take 64 (drop (64 * i) bytes), length-drop (64 * i) bytes, h, fits) in
    sym is ∙ z ∙ ap (λ (l : List ℕ). replicate (length l) 0) is ∙ ap (λ k. replicate k 0) size

-- if n bytes are zeros and all bytes after them are, all bytes from the first of them on are zeros
pub zeros-before : (bytes : List ℕ) (at n : ℕ) → at + n ≤ length bytes → take n (drop at bytes) ≡ replicate n 0
    → drop (at + n) bytes ≡ replicate (length bytes - (at + n)) 0 → drop at bytes ≡ replicate (length bytes - at) 0
zeros-before bytes at n h block e =
    let size : n + (length bytes - (at + n)) ≡ length bytes - at = omega (arith, h) in
    sym (take-append-drop n (drop at bytes))
    ∙ ap (λ l. l ++ drop n (drop at bytes)) block
    ∙ ap (λ l. replicate n 0 ++ l) (drop-drop n at bytes ∙ e)
    ∙ replicate-append-replicate n (length bytes - (at + n)) 0 ∙ ap (λ k. replicate k 0) size

-- if the waiting bytes were sent and still wait, the writer's bytes with them have grown by them
pub sent-and-kept : (a b : Option (List ℕ)) (waiting : List ℕ) → Appends a b waiting → Appends (append_known a waiting) (append_known b waiting) waiting
sent-and-kept None b waiting p = tt
sent-and-kept (Some x) None waiting p = absurd p
sent-and-kept (Some x) (Some y) waiting p = ap (λ l. l ++ waiting) p

-- the lines of a line and of zeros after it are the lines of both together, if the line is whole or
-- there are no zeros
line-and : (line zeros : List ℕ) → (length line ≡ 16) ⊎ (zeros ≡ []) → hex_lines line ++ hex_lines zeros ≡ hex_lines (line ++ zeros)
line-and line zeros (inl h) = sym (hex_lines-append line zeros 1 h)
line-and line zeros (inr h) =
    ap (λ l. hex_lines line ++ hex_lines l) h ∙ append-nil (hex_lines line) ∙ ap hex_lines (sym (append-nil line)) ∙ ap (λ l. hex_lines (line ++ l)) (sym h)

full-or-last : (rest zeros more : ℕ) → rest < 16 → more ≡ min zeros (16 - rest) → (rest + more ≡ 16) ⊎ (zeros - more ≡ 0)
full-or-last rest zeros more h e = elim (cases_lt zeros (16 - rest)) [ inl l ↦ inr (omega (arith, l, e)) | inr l ↦ inl (omega (arith, l, e, h)) ]

-- the lines of bytes followed by zeros are the whole lines, the line of the rest filled with zeros, and
-- lines of zeros
pub padded-lines : (bytes lines rest : List ℕ) (zeros more n : ℕ) → lines ++ rest ≡ bytes → length lines ≡ 16 * n → length rest < 16 → more ≡ min zeros (16 - length rest)
    → (hex_lines lines ++ hex_lines (take (length rest + more) (rest ++ replicate (16 - length rest) 0))) ++ hex_lines (replicate (zeros - more) 0) ≡ hex_lines (bytes ++ replicate zeros 0)
padded-lines bytes lines rest zeros more n all whole short least =
    let within : more ≤ 16 - length rest = omega (arith, least) in
    let below : more + (zeros - more) ≡ zeros = omega (arith, least) in
    let line = rest ++ replicate more 0 in
    let others : List ℕ = replicate (zeros - more) 0 in
    let is : take (length rest + more) (rest ++ replicate (16 - length rest) 0) ≡ line =
    take-append-add rest (replicate (16 - length rest) 0) more ∙ ap (λ l. rest ++ l) (take-replicate more (16 - length rest) 0 within) in
    let size : length line ≡ length rest + more = length-append rest (replicate more 0) ∙ ap (λ k. length rest + k) (length-replicate more 0) in
    let last : (length line ≡ 16) ⊎ (others ≡ []) = elim (full-or-last (length rest) zeros more short least) [ inl h ↦ inl (size ∙ h) | inr h ↦ inr (ap (λ k. replicate k 0) h) ] in
    let joined : line ++ others ≡ rest ++ replicate zeros 0 =
    append_assoc rest (replicate more 0) others ∙ ap (λ l. rest ++ l) (replicate-append-replicate more (zeros - more) 0 ∙ ap (λ k. replicate k 0) below) in
    ap (λ l. (hex_lines lines ++ hex_lines l) ++ hex_lines others) is
    ∙ append_assoc (hex_lines lines) (hex_lines line) (hex_lines others)
    ∙ ap (λ l. hex_lines lines ++ l) (line-and line others last ∙ ap hex_lines joined)
    ∙ sym (hex_lines-append lines (rest ++ replicate zeros 0) n whole)
    ∙ ap hex_lines (sym (append_assoc lines rest (replicate zeros 0)) ∙ ap (λ l. l ++ replicate zeros 0) all)
