-- The bytes that the pieces of a list load.
use Rattle.std.proofs.Common.{◌≡◌, ℕ, ◌⊎◌, inl, inr, List, [], ◌∷◌, ◌++◌, Some}
use Rattle.image.specs.Loading.{Loaded, loaded_byte_at}
use Rattle.executable.proofs.Bytes.{Loads, piece-cases}

-- one of the pieces loads byte b at address a
abbrev pub AnyLoads : List Loaded → ℕ → ℕ → Type 0
AnyLoads [] a b = ⊥
AnyLoads (p ∷ rest) a b = Loads p a b ⊎ AnyLoads rest a b

pub any-left : (xs ys : List Loaded) (a b : ℕ) → AnyLoads xs a b → AnyLoads (xs ++ ys) a b
any-left [] ys a b h = absurd h
any-left (x ∷ xs) ys a b (inl h) = inl h
any-left (x ∷ xs) ys a b (inr h) = inr (any-left xs ys a b h)

pub any-right : (xs ys : List Loaded) (a b : ℕ) → AnyLoads ys a b → AnyLoads (xs ++ ys) a b
any-right [] ys a b h = h
any-right (x ∷ xs) ys a b h = inr (any-right xs ys a b h)

pub any-split : (xs ys : List Loaded) (a b : ℕ) → AnyLoads (xs ++ ys) a b → AnyLoads xs a b ⊎ AnyLoads ys a b
any-split [] ys a b h = inr h
any-split (x ∷ xs) ys a b (inl h) = inl (inl h)
any-split (x ∷ xs) ys a b (inr h) = elim (any-split xs ys a b h) [ inl l ↦ inl (inr l) | inr r ↦ inr r ]

-- if the pieces have byte b at address a, one of them loads it
pub byte-any : (pieces : List Loaded) (a b : ℕ) → loaded_byte_at pieces a ≡ Some b → AnyLoads pieces a b
byte-any [] a b h = cc
byte-any (p ∷ rest) a b h = elim (piece-cases p rest a b h) [ inl here ↦ inl here | inr there ↦ inr (byte-any rest a b there) ]
