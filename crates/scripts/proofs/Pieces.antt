-- Lemmas about HEX that is decoded in pieces.
use Rattle.std.proofs.Common.{◌≡◌, ℕ, zero, suc, ◌+◌, ◌*◌, ◌/◌, ◌%◌, ◌<◌, ◌≤◌, ◌==◌, Bool, true, false, if◌then◌else◌, List, [], ◌∷◌, ◌++◌, length}
use Rattle.std.proofs.Common.{length-take, length-drop, take, drop, slice_index, slice_index_or, is_some, Option, Some, None, Result, Ok, Err, refl, sym, ap}
use Rattle.std.proofs.Common.{◌∙◌, arith, append_assoc, take-append-drop, get_or-take}
use Rattle.std.specs.Prelude.{MatchResult}
use Rattle.std.specs.Result.{result_ok}
use Rattle.std.specs.Simd.{first_chunks}
use Rattle.std.proofs.lemmas.List.{drop-drop, get_or-drop}
use Rattle.hex.proofs.HexLemmas.{decode_of-even, decode_of-odd, decode_of-ok, decode_sized-twice}
use Rattle.hex.specs.Hex.{decode_of, decode_pairs, decode_sized, digit_or_error, hex_digit_value, pair_value, ◌>>=◌}
use Rattle.hex.specs.declared.error.FromHexError.{FromHexError}
use Rattle.scripts.specs.Words.{hex_bytes}

-- the byte that two digits encode, either of which may not be a digit
abbrev paired : ℕ → ℕ → ℕ → Option ℕ → Option ℕ → Result ℕ FromHexError
paired a b i high low = digit_or_error a i high >>= (λ h. digit_or_error b (i + 1) low >>= (λ l. Ok (h * 16 + l)))

-- a digit's value is below 16
pub digit-below : (c v : ℕ) → hex_digit_value c ≡ Some v → v < 16
digit-below c v h = grind (arith)

-- two digits encode a byte
pub read-pair : (a b i v w : ℕ) → hex_digit_value a ≡ Some v → hex_digit_value b ≡ Some w → pair_value a b i ≡ Ok (v * 16 + w)
read-pair a b i v w high low = ap (λ h. paired a b i h (hex_digit_value b)) high ∙ ap (λ l. paired a b i (Some v) l) low

-- if a byte of a text isn't a digit, the text encodes nothing
pub not-all : (s : List ℕ) (k : ℕ) → k < length s → hex_digit_value (slice_index s k) ≡ None → None ≡ result_ok (decode_of s)
not-all s k within none = by (decode_of s) refl
  where
    by : (r : Result (List ℕ) FromHexError) → decode_of s ≡ r → None ≡ result_ok r
    by (Ok bytes) is = absurd (cc (sym (ap is_some none) ∙ (decode_of-ok s bytes is).1 k 0 within))
    by (Err e) is = refl

-- the bytes `front` and then the bytes `rest`, if there are both
abbrev pub joined : Option (List ℕ) → Option (List ℕ) → Option (List ℕ)
joined (Some front) (Some rest) = Some (front ++ rest)
joined front rest = None

pub joined-nil : (r : Option (List ℕ)) → joined (Some []) r ≡ r
joined-nil (Some bytes) = refl
joined-nil None = refl

joined-none : (r : Option (List ℕ)) → joined None r ≡ None
joined-none (Some bytes) = refl
joined-none None = refl

joined-assoc : (a b : List ℕ) (r : Option (List ℕ)) → joined (Some a) (joined (Some b) r) ≡ joined (Some (a ++ b)) r
joined-assoc a b (Some c) = ap (λ l. Some l) (sym (append_assoc a b c))
joined-assoc a b None = refl

joined-three : (p q r : Option (List ℕ)) → joined p (joined q r) ≡ joined (joined p q) r
joined-three (Some a) (Some b) (Some c) = ap (λ l. Some l) (sym (append_assoc a b c))
joined-three (Some a) (Some b) None = refl
joined-three (Some a) None (Some c) = refl
joined-three (Some a) None None = refl
joined-three None (Some b) (Some c) = refl
joined-three None (Some b) None = refl
joined-three None None (Some c) = refl
joined-three None None None = refl

-- the list of the one byte, if there is one
abbrev one : Option ℕ → Option (List ℕ)
one (Some b) = Some (b ∷ [])
one None = None

-- the bytes of a pair and of the other pairs are joined if both are valid
step-ok : (byte : Result ℕ FromHexError) (rest : Result (List ℕ) FromHexError)
    → result_ok (byte >>= (λ b. rest >>= (λ bs. Ok (b ∷ bs)))) ≡ joined (one (result_ok byte)) (result_ok rest)
step-ok (Ok b) (Ok bs) = refl
step-ok (Ok b) (Err e) = refl
step-ok (Err d) (Ok bs) = refl
step-ok (Err d) (Err e) = refl

first-pair : (i x y : ℕ) (s : List ℕ) → result_ok (decode_pairs i (x ∷ y ∷ s)) ≡ joined (one (result_ok (pair_value x y i))) (result_ok (decode_pairs (i + 2) s))
unfolding decode_pairs
first-pair i x y s = step-ok (pair_value x y i) (decode_pairs (i + 2) s)

pair-anywhere : (a b i j : ℕ) (high low : Option ℕ) → result_ok (paired a b i high low) ≡ result_ok (paired a b j high low)
pair-anywhere a b i j (Some h) (Some l) = refl
pair-anywhere a b i j (Some h) None = refl
pair-anywhere a b i j None low = refl

-- the bytes that pairs encode don't depend on the position of the pairs
pub anywhere : (i j : ℕ) (s : List ℕ) → result_ok (decode_pairs i s) ≡ result_ok (decode_pairs j s)
unfolding decode_pairs
anywhere i j [] = refl
anywhere i j (x ∷ []) = refl
anywhere i j (x ∷ y ∷ s) =
    first-pair i x y s
    ∙ ap (λ p. joined (one p) (result_ok (decode_pairs (i + 2) s))) (pair-anywhere x y i j (hex_digit_value x) (hex_digit_value y))
    ∙ ap (λ r. joined (one (result_ok (pair_value x y j))) r) (anywhere (i + 2) (j + 2) s)
    ∙ sym (first-pair j x y s)

-- two rows of pairs together encode the bytes of the first and then those of the second
pub pairs-append : (i : ℕ) (a b : List ℕ) → length a % 2 ≡ 0 → result_ok (decode_pairs i (a ++ b)) ≡ joined (result_ok (decode_pairs i a)) (result_ok (decode_pairs 0 b))
unfolding decode_pairs
pairs-append i [] b even = anywhere i 0 b ∙ sym (joined-nil (result_ok (decode_pairs 0 b)))
pairs-append i (x ∷ []) b even = absurd (omega (arith, even))
pairs-append i (x ∷ y ∷ a) b even =
    first-pair i x y (a ++ b)
    ∙ ap (λ r. joined (one (result_ok (pair_value x y i))) r) (pairs-append (i + 2) a b (omega (arith, even)))
    ∙ joined-three (one (result_ok (pair_value x y i))) (result_ok (decode_pairs (i + 2) a)) (result_ok (decode_pairs 0 b))
    ∙ ap (λ r. joined r (result_ok (decode_pairs 0 b))) (sym (first-pair i x y a))

-- pair number i is the two values at position 2 * i
pair-at : (n i : ℕ) (bytes d : List ℕ) → i < n → slice_index_or (first_chunks 2 n bytes) i d ≡ take 2 (drop (2 * i) bytes)
pair-at zero i bytes d h = absurd (omega arith)
pair-at (suc n) zero bytes d h = refl
pair-at (suc n) (suc i) bytes d h =
    let e : 2 + 2 * i ≡ 2 * suc i = omega arith in
    pair-at n i (drop 2 bytes) d (omega arith) ∙ ap (take 2) (drop-drop (2 * i) 2 bytes ∙ ap (λ k. drop k bytes) e)

-- the first value of pair number i is value number 2 * i
pub pair-high : (n i : ℕ) (pairs : List (List ℕ)) (values d : List ℕ) → pairs ≡ first_chunks 2 n values → i < n → slice_index (slice_index_or pairs i d) 0 ≡ slice_index values (2 * i)
pair-high n i pairs values d are within =
    let at : 2 * i + 0 ≡ 2 * i = omega arith in
    ap (λ l. slice_index (slice_index_or l i d) 0) are ∙ ap (λ l. slice_index l 0) (pair-at n i values d within) ∙ get_or-take 2 (drop (2 * i) values) 0 0 (omega arith)
    ∙ get_or-drop (2 * i) values 0 0 ∙ ap (λ k. slice_index values k) at

-- the second value of pair number i is value number 2 * i + 1
pub pair-low : (n i : ℕ) (pairs : List (List ℕ)) (values d : List ℕ) → pairs ≡ first_chunks 2 n values → i < n → slice_index (slice_index_or pairs i d) 1 ≡ slice_index values (2 * i + 1)
pair-low n i pairs values d are within =
    ap (λ l. slice_index (slice_index_or l i d) 1) are ∙ ap (λ l. slice_index l 1) (pair-at n i values d within) ∙ get_or-take 2 (drop (2 * i) values) 1 0 (omega arith)
    ∙ get_or-drop (2 * i) values 1 0

-- whole piece number i is the 32 digits at position 32 * i
pub piece-at : (n i : ℕ) (bytes d : List ℕ) → i < n → slice_index_or (first_chunks 32 n bytes) i d ≡ take 32 (drop (32 * i) bytes)
piece-at zero i bytes d h = absurd (omega arith)
piece-at (suc n) zero bytes d h = refl
piece-at (suc n) (suc i) bytes d h =
    let e : 32 + 32 * i ≡ 32 * suc i = omega arith in
    piece-at n i (drop 32 bytes) d (omega arith) ∙ ap (take 32) (drop-drop (32 * i) 32 bytes ∙ ap (λ k. drop k bytes) e)

-- piece number i and the digits after it are the digits from its beginning on
behind-piece : (i : ℕ) (word : List ℕ) → take 32 (drop (32 * i) word) ++ drop (32 * (i + 1)) word ≡ drop (32 * i) word
behind-piece i word =
    let e : 32 * i + 32 ≡ 32 * (i + 1) = omega arith in
    ap (λ l. take 32 (drop (32 * i) word) ++ l) (sym (drop-drop 32 (32 * i) word ∙ ap (λ k. drop k word) e)) ∙ take-append-drop 32 (drop (32 * i) word)

split-piece : (i : ℕ) (word piece : List ℕ) → piece ≡ take 32 (drop (32 * i) word) → length piece ≡ 32
    → result_ok (decode_pairs 0 (drop (32 * i) word)) ≡ joined (result_ok (decode_of piece)) (result_ok (decode_pairs 0 (drop (32 * (i + 1)) word)))
split-piece i word piece is len =
    ap (λ l. result_ok (decode_pairs 0 l)) (sym (ap (λ l. l ++ drop (32 * (i + 1)) word) is ∙ behind-piece i word))
    ∙ pairs-append 0 piece (drop (32 * (i + 1)) word) (omega (arith, len))
    ∙ ap (λ r. joined r (result_ok (decode_pairs 0 (drop (32 * (i + 1)) word)))) (sym (ap result_ok (decode_of-even piece (omega (arith, len)))))

-- if piece number i is decoded, its bytes are appended to those of the earlier pieces
pub piece-read : (i : ℕ) (word piece bytes decoded : List ℕ) → piece ≡ take 32 (drop (32 * i) word) → length piece ≡ 32 → Some decoded ≡ result_ok (decode_of piece)
    → result_ok (decode_pairs 0 word) ≡ joined (Some bytes) (result_ok (decode_pairs 0 (drop (32 * i) word)))
    → result_ok (decode_pairs 0 word) ≡ joined (Some (bytes ++ decoded)) (result_ok (decode_pairs 0 (drop (32 * (i + 1)) word)))
piece-read i word piece bytes decoded is len read so_far =
    let rest = result_ok (decode_pairs 0 (drop (32 * (i + 1)) word)) in
    so_far ∙ ap (joined (Some bytes)) (split-piece i word piece is len ∙ ap (λ r. joined r rest) (sym read)) ∙ joined-assoc bytes decoded rest

-- if a byte of piece number i isn't a digit, the word encodes nothing
pub piece-refused : (i : ℕ) (word piece bytes : List ℕ) → piece ≡ take 32 (drop (32 * i) word) → length piece ≡ 32 → None ≡ result_ok (decode_of piece)
    → result_ok (decode_pairs 0 word) ≡ joined (Some bytes) (result_ok (decode_pairs 0 (drop (32 * i) word)))
    → result_ok (decode_pairs 0 word) ≡ None
piece-refused i word piece bytes is len refused so_far =
    let rest = result_ok (decode_pairs 0 (drop (32 * (i + 1)) word)) in
    so_far ∙ ap (joined (Some bytes)) (split-piece i word piece is len ∙ ap (λ r. joined r rest) (sym refused) ∙ joined-none rest)

-- the slice has the encoded bytes if decoding into it succeeded
pub sized-read : {E : Type 0} (d : Result (List ℕ) E) (r : Result Unit E) (out : List ℕ) → MatchResult d (λ bytes. (r ≡ Ok tt) × (out ≡ bytes)) (λ e. r ≡ Err e) → r ≡ Ok tt → result_ok d ≡ Some out
sized-read (Ok bytes) r out h is = ap (λ l. Some l) (sym h.1)
sized-read (Err e) r out h is = cc (sym h ∙ is)

pub sized-refused : {E : Type 0} (d : Result (List ℕ) E) (r : Result Unit E) (out : List ℕ) (e : E)
    → MatchResult d (λ bytes. (r ≡ Ok tt) × (out ≡ bytes)) (λ e. r ≡ Err e) → r ≡ Err e → result_ok d ≡ None
sized-refused (Ok bytes) r out e h is = cc (sym h.0 ∙ is)
sized-refused (Err d) r out e h is = refl

piece-length : (i n : ℕ) (word piece : List ℕ) → i < n → 32 * n ≤ length word → piece ≡ take 32 (drop (32 * i) word) → length piece ≡ 32
piece-length i n word piece within room is =
    ap length is ∙ omega (arith, within, room, length-take 32 (drop (32 * i) word), length-drop (32 * i) word)

-- if whole piece number i is decoded, its bytes are appended to those before; otherwise the word encodes
-- nothing
pub next-read : (n i : ℕ) (pieces : List (List ℕ)) (word d bytes decoded : List ℕ) → pieces ≡ first_chunks 32 n word → i < n → 32 * n ≤ length word
    → Some decoded ≡ result_ok (decode_of (slice_index_or pieces i d))
    → result_ok (decode_pairs 0 word) ≡ joined (Some bytes) (result_ok (decode_pairs 0 (drop (32 * i) word)))
    → result_ok (decode_pairs 0 word) ≡ joined (Some (bytes ++ decoded)) (result_ok (decode_pairs 0 (drop (32 * (i + 1)) word)))
next-read n i pieces word d bytes decoded are within room read so_far =
    let piece = slice_index_or pieces i d in
    let is : piece ≡ take 32 (drop (32 * i) word) = ap (λ l. slice_index_or l i d) are ∙ piece-at n i word d within in
    piece-read i word piece bytes decoded is (piece-length i n word piece within room is) read so_far

pub next-refused : (n i : ℕ) (pieces : List (List ℕ)) (word d bytes : List ℕ) → pieces ≡ first_chunks 32 n word → i < n → 32 * n ≤ length word
    → None ≡ result_ok (decode_of (slice_index_or pieces i d))
    → result_ok (decode_pairs 0 word) ≡ joined (Some bytes) (result_ok (decode_pairs 0 (drop (32 * i) word)))
    → result_ok (decode_pairs 0 word) ≡ None
next-refused n i pieces word d bytes are within room refused so_far =
    let piece = slice_index_or pieces i d in
    let is : piece ≡ take 32 (drop (32 * i) word) = ap (λ l. slice_index_or l i d) are ∙ piece-at n i word d within in
    piece-refused i word piece bytes is (piece-length i n word piece within room is) refused so_far

-- if the digits after the whole pieces are decoded into a slice of half their length, or can't be, the
-- word has this result
pub last-digits : (i n : ℕ) (word rest bytes : List ℕ) (o : Option (List ℕ)) → rest ≡ drop (32 * i) word → length rest ≡ 2 * n → result_ok (decode_sized rest n) ≡ o
    → result_ok (decode_pairs 0 word) ≡ joined (Some bytes) (result_ok (decode_pairs 0 (drop (32 * i) word)))
    → result_ok (decode_pairs 0 word) ≡ joined (Some bytes) o
last-digits i n word rest bytes o is even read so_far =
    let sized = decode_sized-twice rest n even ∙ decode_of-even rest (omega (arith, even)) in
    so_far ∙ ap (joined (Some bytes)) (ap (λ l. result_ok (decode_pairs 0 l)) (sym is) ∙ ap result_ok (sym sized) ∙ read)

pub front-half : (rest : List ℕ) (front : List ℕ) → length rest % 2 ≡ 0 → length rest / 2 ≤ length front → length rest ≡ 2 * length (take (length rest / 2) front)
front-half rest front even room = omega (arith, even, room, length-take (length rest / 2) front)

-- if the length of HEX is even and not 0, HEX encodes the bytes of its pairs
pub hex_bytes-even : (word : List ℕ) → (length word == 0) ≡ false → length word % 2 ≡ 0 → hex_bytes word ≡ result_ok (decode_pairs 0 word)
hex_bytes-even word some even =
    ap (λ b. if b then None else result_ok (decode_of word)) some ∙ ap result_ok (decode_of-even word even)

none-either : (b : Bool) (o : Option (List ℕ)) → o ≡ None → (if b then None else o) ≡ None
none-either true o h = refl
none-either false o h = h

pub hex_bytes-odd : (word : List ℕ) → length word % 2 ≡ 1 → hex_bytes word ≡ None
hex_bytes-odd word odd = none-either (length word == 0) (result_ok (decode_of word)) (ap result_ok (decode_of-odd word odd))
