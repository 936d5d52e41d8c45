-- Bytes followed by zeros.
use Rattle.std.proofs.Common.{◌≡◌, ℕ, zero, suc, ◌+◌, ◌-◌, ◌≤◌, List, [], ◌∷◌, ◌++◌, length, take, drop, replicate, refl, sym, ap, ◌∙◌, arith}
use Rattle.std.proofs.lemmas.List.{take-append-le}
use Rattle.passes.specs.Bytes.{padded}

-- padding to 0 makes no bytes
padded-zero : (bytes : List ℕ) → padded 0 bytes ≡ []
padded-zero [] = refl
padded-zero (b ∷ bytes) = refl

take-replicate : (n m : ℕ) (x : ℕ) → n ≤ m → take n (replicate m x) ≡ replicate n x
take-replicate zero zero x le = refl
take-replicate zero (suc m) x le = refl
take-replicate (suc n) zero x le = absurd (omega (arith, le))
take-replicate (suc n) (suc m) x le = ap (λ l. x ∷ l) (take-replicate n m x (omega (arith, le)))

-- more zeros at the end make no difference to the first n bytes
take-more : (n m : ℕ) (bytes : List ℕ) → n ≤ m → take n (bytes ++ replicate m 0) ≡ padded n bytes
take-more zero m [] le = take-replicate 0 m 0 le ∙ sym (take-replicate 0 0 0 (omega arith))
take-more (suc n) m [] le = take-replicate (suc n) m 0 le ∙ sym (take-replicate (suc n) (suc n) 0 (omega arith))
take-more zero m (b ∷ bytes) le = refl
take-more (suc n) m (b ∷ bytes) le = ap (λ l. b ∷ l) (take-more n m bytes (omega (arith, le)) ∙ sym (take-more n (suc n) bytes (omega arith)))

padded-cons : (n b : ℕ) (bytes : List ℕ) → padded (suc n) (b ∷ bytes) ≡ b ∷ padded n bytes
padded-cons n b bytes = ap (λ l. b ∷ l) (take-more n (suc n) bytes (omega arith))

padded-nil : (n : ℕ) → padded (suc n) [] ≡ 0 ∷ padded n []
padded-nil n = ap (λ l. 0 ∷ l) (take-replicate n n 0 (omega arith) ∙ sym (take-replicate n n 0 (omega arith)))

suc_plus : (a b : ℕ) → suc a + b ≡ suc (a + b)
suc_plus a b = omega arith

drop-nil : (a : ℕ) → ◌≡◌ {A = List ℕ} (drop a []) []
drop-nil zero = refl
drop-nil (suc a) = refl

-- a + b bytes are the first a bytes, followed by the next b bytes, each padded with zeros
pub padded-add : (a b : ℕ) (bytes : List ℕ) → padded (a + b) bytes ≡ padded a bytes ++ padded b (drop a bytes)
padded-add zero b bytes = ap (λ n. padded n bytes) (let e : 0 + b ≡ b = omega arith in e) ∙ sym (ap (λ l. l ++ padded b bytes) (padded-zero bytes))
padded-add (suc a) b [] = ap (λ n. padded n []) (suc_plus a b) ∙ padded-nil (a + b)
    ∙ ap (λ l. 0 ∷ l) (padded-add a b [] ∙ ap (λ l. padded a [] ++ padded b l) (drop-nil a)) ∙ sym (ap (λ l. l ++ padded b []) (padded-nil a))
padded-add (suc a) b (x ∷ bytes) = ap (λ n. padded n (x ∷ bytes)) (suc_plus a b) ∙ padded-cons (a + b) x bytes
    ∙ ap (λ l. x ∷ l) (padded-add a b bytes) ∙ sym (ap (λ l. l ++ padded b (drop a bytes)) (padded-cons a x bytes))

-- the first n padded bytes don't depend on the bytes from number n on
pub padded-take : (n m : ℕ) (bytes : List ℕ) → n ≤ m → padded n (take m bytes) ≡ padded n bytes
padded-take n zero [] le = refl
padded-take n (suc m) [] le = refl
padded-take zero zero (b ∷ bytes) le = refl
padded-take (suc n) zero (b ∷ bytes) le = absurd (omega (arith, le))
padded-take zero (suc m) (b ∷ bytes) le = refl
padded-take (suc n) (suc m) (b ∷ bytes) le = padded-cons n b (take m bytes) ∙ ap (λ l. b ∷ l) (padded-take n m bytes (omega (arith, le))) ∙ sym (padded-cons n b bytes)

-- the padded bytes begin with the bytes themselves
pub take-padded : (n : ℕ) (bytes : List ℕ) → length bytes ≤ n → take (length bytes) (padded n bytes) ≡ bytes
take-padded zero [] le = refl
take-padded (suc n) [] le = refl
take-padded zero (b ∷ bytes) le = absurd (omega (arith, le))
take-padded (suc n) (b ∷ bytes) le = ap (take (suc (length bytes))) (padded-cons n b bytes) ∙ ap (λ l. b ∷ l) (take-padded n bytes (omega (arith, le)))

-- if there are enough bytes, no zeros follow
pub padded-long : (n : ℕ) (bytes : List ℕ) → n ≤ length bytes → padded n bytes ≡ take n bytes
padded-long n bytes le = take-append-le n bytes (replicate n 0) le

-- if there are fewer bytes, they are followed by zeros
pub padded-short : (n : ℕ) (bytes : List ℕ) → length bytes ≤ n → padded n bytes ≡ bytes ++ replicate (n - length bytes) 0
padded-short zero [] le = refl
padded-short (suc n) [] le = take-replicate (suc n) (suc n) 0 (omega arith) ∙ ap (λ k. replicate k 0) (let e : suc n ≡ suc n - 0 = omega arith in e)
padded-short zero (b ∷ bytes) le = absurd (omega (arith, le))
padded-short (suc n) (b ∷ bytes) le = padded-cons n b bytes ∙ ap (λ l. b ∷ l) (padded-short n bytes (omega (arith, le)))
    ∙ ap (λ k. b ∷ bytes ++ replicate k 0) (let e : n - length bytes ≡ suc n - suc (length bytes) = omega arith in e)

-- padding to n makes exactly n bytes
pub length-padded : (n : ℕ) (bytes : List ℕ) → length (padded n bytes) ≡ n
length-padded zero [] = refl
length-padded (suc n) [] = ap length (padded-nil n) ∙ ap suc (length-padded n [])
length-padded zero (b ∷ bytes) = refl
length-padded (suc n) (b ∷ bytes) = ap length (padded-cons n b bytes) ∙ ap suc (length-padded n bytes)
