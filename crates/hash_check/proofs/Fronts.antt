-- The first bytes of a string of the string table are enough to recognize the string.
use Rattle.std.proofs.Common.{◌≡◌, ◌≢◌, ℕ, ◌<◌, ◌≤◌, ◌+◌, ◌-◌, Bool, true, false, cond, List, [], ◌∷◌, length, drop, take, min, arith, refl, ◌∙◌, sym, ap, suc, zero, eqb, get_or, inl, inr}
use Rattle.std.specs.Prelude.{not}
use Rattle.std.specs.List.{take_while, prefix_len}
use Rattle.std.specs.Str.{bytes_eq}
use Rattle.std.proofs.lemmas.Bool.{cases_lt, cases_eq}
use Rattle.std.proofs.lemmas.Bool.Decides.{eqb_tells}
use Rattle.std.proofs.lemmas.List.{take_rest, drop_min, take_all, take_min, length-take-le}
use Rattle.std.proofs.lemmas.List.Sums.{prefix_len-le-length}
use Rattle.std.proofs.lemmas.Slice.Eq.{bytes_eq-Decides}
use Rattle.elf_dynamic.specs.Strings.{string_at}

is_text : ℕ → Bool
is_text b = not (eqb b 0)

text-zero : is_text 0 ≡ false
unfolding is_text
text-zero = refl

text-other : (b : ℕ) → b ≢ 0 → is_text b ≡ true
unfolding is_text
text-other b ne = elim (eqb_tells b 0) [ inl t ↦ absurd (ne t.1) | inr f ↦ ap not f.0 ]

-- if the first zero byte of a list is at index i, i bytes come before it
stops : (xs : List ℕ) (i : ℕ) → i < length xs → ((k : ℕ) → k < i → get_or xs k 0 ≢ 0) → get_or xs i 0 ≡ 0 → prefix_len is_text xs ≡ i
stops [] i lt h z = absurd (omega arith)
stops (x ∷ xs) zero lt h z = let here : is_text x ≡ false = ap is_text z ∙ text-zero in ap (λ b. cond b (1 + prefix_len is_text xs) 0) here
stops (x ∷ xs) (suc i) lt h z =
    let here : is_text x ≡ true = text-other x (h 0 (omega arith)) in
    let rest : prefix_len is_text xs ≡ i = stops xs i (omega arith) (λ k less. h (suc k) (omega arith)) z in
    ap (λ b. cond b (1 + prefix_len is_text xs) 0) here ∙ omega (arith, rest)

never : (xs : List ℕ) → ((k : ℕ) → k < length xs → get_or xs k 0 ≢ 0) → prefix_len is_text xs ≡ length xs
never [] h = refl
never (x ∷ xs) h =
    let here : is_text x ≡ true = text-other x (h 0 (omega arith)) in
    let rest : prefix_len is_text xs ≡ length xs = never xs (λ k less. h (suc k) (omega arith)) in
    ap (λ b. cond b (1 + prefix_len is_text xs) 0) here ∙ omega (arith, rest)

long-step : (b : Bool) (n m k : ℕ) → suc n ≤ cond b (1 + m) 0 → (n ≤ m → k ≡ n) → cond b (1 + k) 0 ≡ suc n
long-step true n m k le h = let less : n ≤ m = omega arith in omega (arith, h less)
long-step false n m k le h = absurd (omega arith)

-- a list that is cut to n bytes has min(n, k) bytes before its first zero byte if the whole list has k
long : (n : ℕ) (xs : List ℕ) → n ≤ prefix_len is_text xs → prefix_len is_text (take n xs) ≡ n
long zero xs le = refl
long (suc n) [] le = let wrong : suc n ≤ 0 = le in absurd (omega arith)
long (suc n) (x ∷ xs) le = long-step (is_text x) n (prefix_len is_text xs) (prefix_len is_text (take n xs)) le (long n xs)

short-step : (b : Bool) (n m k : ℕ) → cond b (1 + m) 0 ≤ suc n → (m ≤ n → k ≡ m) → cond b (1 + k) 0 ≡ cond b (1 + m) 0
short-step true n m k le h = let less : m ≤ n = omega arith in omega (arith, h less)
short-step false n m k le h = refl

short : (n : ℕ) (xs : List ℕ) → prefix_len is_text xs ≤ n → prefix_len is_text (take n xs) ≡ prefix_len is_text xs
short zero xs le = let none : prefix_len is_text xs ≡ 0 = omega arith in sym none
short (suc n) [] le = refl
short (suc n) (x ∷ xs) le = short-step (is_text x) n (prefix_len is_text xs) (prefix_len is_text (take n xs)) le (short n xs)

twice : (m n : ℕ) (xs : List ℕ) → m ≤ n → take m (take n xs) ≡ take m xs
twice zero n xs le = refl
twice (suc m) zero xs le = absurd (omega arith)
twice (suc m) (suc n) [] le = refl
twice (suc m) (suc n) (x ∷ xs) le = ap (λ t. x ∷ t) (twice m n xs (omega arith))

texts : List ℕ → List ℕ
texts xs = take_while is_text xs

-- the front of a string is the string of the front
front-of-texts : (n : ℕ) (xs : List ℕ) → take n (texts xs) ≡ texts (take n xs)
unfolding texts
front-of-texts n xs = elim (cases_lt (prefix_len is_text xs) n) [
  | inl less ↦
      let le : prefix_len is_text xs ≤ n = omega arith in
      let fits : length (take (prefix_len is_text xs) xs) ≤ n = omega (arith, length-take-le (prefix_len is_text xs) xs (prefix_len-le-length is_text xs)) in
      take_all n (take (prefix_len is_text xs) xs) fits ∙ sym (twice (prefix_len is_text xs) n xs le) ∙ ap (λ k. take k (take n xs)) (sym (short n xs le))
  | inr more ↦
      twice n (prefix_len is_text xs) xs more ∙ sym (twice n n xs (omega arith)) ∙ ap (λ k. take k (take n xs)) (sym (long n xs more))
]

string-texts : (t : List ℕ) (at : ℕ) → string_at t at ≡ texts (drop at t)
unfolding string_at texts is_text
string-texts t at = refl

pub front-stops : (t : List ℕ) (at limit i : ℕ) (front : List ℕ) → front ≡ take limit (drop at t) → i < length front → ((k : ℕ) → k < i → get_or front k 0 ≢ 0) → get_or front i 0 ≡ 0
    → take i front ≡ take limit (string_at t at)
unfolding texts
front-stops t at limit i front is lt h z =
    ap (λ k. take k front) (sym (stops front i lt h z)) ∙ ap texts is ∙ sym (front-of-texts limit (drop at t)) ∙ ap (take limit) (sym (string-texts t at))

pub front-never : (t : List ℕ) (at limit : ℕ) (front : List ℕ) → front ≡ take limit (drop at t) → ((k : ℕ) → k < length front → get_or front k 0 ≢ 0) → front ≡ take limit (string_at t at)
unfolding texts
front-never t at limit front is h =
    let whole : length front ≤ prefix_len is_text front = omega (arith, never front h) in
    sym (take_all (prefix_len is_text front) front whole) ∙ ap texts is ∙ sym (front-of-texts limit (drop at t)) ∙ ap (take limit) (sym (string-texts t at))

-- the bytes that the code slices from the table at an offset are the first `limit` bytes from this
-- offset
pub front-is : (t : List ℕ) (at m limit n : ℕ) → m ≡ min at (length t) → n ≡ min limit (length (take (length t - m) (drop m t)))
    → take n (take (length t - m) (drop m t)) ≡ take limit (drop at t)
front-is t at m limit n e size =
    let rest : take (length t - m) (drop m t) ≡ drop at t = take_rest t m ∙ ap (λ k. drop k t) e ∙ drop_min at t in
    ap (λ k. take k (take (length t - m) (drop m t))) size ∙ take_min limit (take (length t - m) (drop m t)) ∙ ap (take limit) rest

whole-from-front : (s name : List ℕ) → take (length name + 1) s ≡ name → s ≡ name
whole-from-front s name e = elim (cases_lt (length s) (length name + 1)) [
  | inl less ↦ sym (take_all (length name + 1) s (omega arith)) ∙ e
  | inr more ↦ absurd (omega (arith, ap length e, length-take-le (length name + 1) s more))
]

front-from-whole : (s name : List ℕ) → s ≡ name → take (length name + 1) s ≡ name
front-from-whole s name e = take_all (length name + 1) s (omega (arith, ap length e)) ∙ e

both-ways : (a b : Bool) → (a ≡ true → b ≡ true) → (b ≡ true → a ≡ true) → a ≡ b
both-ways true b to from = sym (to refl)
both-ways false true to from = from refl
both-ways false false to from = refl

-- one byte more than a name has is enough to decide whether a string is the name
pub front_tells : (s name : List ℕ) → bytes_eq (take (length name + 1) s) name ≡ bytes_eq s name
front_tells s name = both-ways (bytes_eq (take (length name + 1) s) name) (bytes_eq s name)
    (λ e. (bytes_eq-Decides s name).1 (whole-from-front s name ((bytes_eq-Decides (take (length name + 1) s) name).0 e)))
    (λ e. (bytes_eq-Decides (take (length name + 1) s) name).1 (front-from-whole s name ((bytes_eq-Decides s name).0 e)))

ends-step : (b : Bool) (x n m : ℕ) (xs : List ℕ) → is_text x ≡ b → cond b (1 + m) 0 ≡ n → n < length (x ∷ xs) → (m < length xs → get_or xs m 0 ≡ 0) → get_or (x ∷ xs) n 0 ≡ 0
ends-step true x n m xs b is lt rest = let at : n ≡ suc m = omega (arith, is) in ap (λ k. get_or (x ∷ xs) k 0) at ∙ rest (omega (arith, lt, at))
ends-step false x n m xs b is lt rest =
    ap (λ k. get_or (x ∷ xs) k 0) (sym is) ∙ elim (cases_eq x 0) [ inl e ↦ e | inr ne ↦ let wrong : true ≡ false = sym (text-other x ne) ∙ b in absurd (cc) ]

-- if there is a byte after those before the first zero byte, it is 0
ends-there : (xs : List ℕ) → prefix_len is_text xs < length xs → get_or xs (prefix_len is_text xs) 0 ≡ 0
ends-there [] lt = absurd (omega (arith, lt))
ends-there (x ∷ xs) lt = ends-step (is_text x) x (prefix_len is_text (x ∷ xs)) (prefix_len is_text xs) xs refl refl lt (ends-there xs)

-- if the byte after `size` bytes isn't 0, the string isn't `size` bytes long
pub no-end : (table : List ℕ) (off m size : ℕ) → m ≡ min off (length table) → size < length (take (length table - m) (drop m table))
    → eqb (get_or (take (length table - m) (drop m table)) size 0) 0 ≡ false
    → length (string_at table off) ≡ size → ⊥
unfolding string_at is_text
no-end table off m size at lt other is =
    let rest : take (length table - m) (drop m table) ≡ drop off table = take_rest table m ∙ ap (λ k. drop k table) at ∙ drop_min off table in
    let d : List ℕ = drop off table in
    let whole : length (take (prefix_len (λ b. not (eqb b 0)) (drop off table)) (drop off table)) ≡ prefix_len (λ b. not (eqb b 0)) (drop off table) =
    length-take-le (prefix_len (λ b. not (eqb b 0)) (drop off table)) (drop off table) (prefix_len-le-length (λ b. not (eqb b 0)) (drop off table)) in
    let here : prefix_len (λ b. not (eqb b 0)) (drop off table) ≡ size = sym whole ∙ is in
    let zero-byte : get_or (drop off table) size 0 ≡ 0 = ap (λ k. get_or (drop off table) k 0) (sym here) ∙ ends-there d (omega (arith, lt, ap length rest, here)) in
    let wrong : true ≡ false = ap (λ b. eqb b 0) (sym (ap (λ l. get_or l size 0) rest ∙ zero-byte)) ∙ other in
    absurd (cc)
