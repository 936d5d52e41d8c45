-- Where pieces lie: no two share a page.
use Rattle.std.proofs.Common.{◌≡◌, ℕ, ◌<◌, ◌≤◌, inl, inr, List, [], ◌∷◌, map, Some, ◌∙◌, arith}
use Rattle.std.specs.Prelude.{◌^◌, ◌%◌}
use Rattle.std.proofs.lemmas.Nat.{and_mask}
use Rattle.image.specs.Constant.{MEMORY_LIMIT}
use Rattle.image.specs.Loading.{Loaded, loaded_byte_at}
use Rattle.image.specs.Permissions.{permission_bits}
use Rattle.executable.specs.Piece.{page_of, end_of, finished}
use Rattle.executable.proofs.Any.{AnyLoads}
use Rattle.executable.proofs.Bytes.{piece-here, piece-there}
use Rattle.executable.proofs.Zeros.{finished-heading, finished-length}
use Rattle.executable.specs.inside.Joining.{IsShort}
use Rattle.executable.proofs.Joining.{finished-loads, loads-finished, finished-end}
use Rattle.executable.proofs.Loading.{AllPermissions}

-- the piece begins in a page at or above `from`, isn't empty, has no more contents than memory, and ends
-- at or below the limit
pub record FinePiece (from : ℕ) (p : Loaded) : Type 0 where
  pub page : from ≤ page_of p.heading.address
  pub short : IsShort p
  pub some : 0 < p.heading.size
  pub low : end_of p ≤ MEMORY_LIMIT
  pub permissions : p.heading.permissions < 2 ^ 3

-- each piece is fine and begins in a page at or above the end of the one before it, the first one at or
-- above `from`
abbrev pub Fine : ℕ → List Loaded → Type 0
Fine from [] = Unit {0}
Fine from (p ∷ rest) = FinePiece from p × Fine (end_of p) rest

pub bits-small : (x : ℕ) → permission_bits x < 2 ^ 3
bits-small x = let e : permission_bits x ≡ x % 2 ^ 3 = and_mask x 3 in omega (arith, e)

pub small-bits : (x : ℕ) → x < 2 ^ 3 → permission_bits x ≡ x
small-bits x h = let e : permission_bits x ≡ x % 2 ^ 3 = and_mask x 3 in omega (arith, e, h)

pub fine-finished : (from : ℕ) (p : Loaded) → FinePiece from p → FinePiece from (finished p)
fine-finished from p f =
    let e = finished-heading p in
    record {
      page = rw e f.page;
      short = rw e (finished-length p p.heading.size f.short);
      some = rw e f.some;
      low = rw e f.low;
      permissions = rw e f.permissions;
    }

-- a fine piece is fine after any end at or below its first page
pub fine-behind : (from : ℕ) (p : Loaded) → from ≤ page_of p.heading.address → FinePiece 0 p → FinePiece from p
fine-behind from p h f = record { page = h; short = f.short; some = f.some; low = f.low; permissions = f.permissions }

pub fine-above : (from : ℕ) (pieces : List Loaded) (a b : ℕ) → Fine from pieces → AnyLoads pieces a b → from ≤ a
fine-above from [] a b fine h = absurd h
fine-above from (p ∷ rest) a b fine (inl h) = let page = fine.0.page in let begin = h.from in omega (arith, page, begin)
fine-above from (p ∷ rest) a b fine (inr h) =
    let page = fine.0.page in
    let some = fine.0.some in
    let over = fine-above (end_of p) rest a b fine.1 h in
    omega (arith, page, some, over)

-- if one of the pieces loads byte b at address a, the search by address finds it
pub any-byte : (from : ℕ) (pieces : List Loaded) (a b : ℕ) → Fine from pieces → AnyLoads pieces a b → loaded_byte_at pieces a ≡ Some b
any-byte from [] a b fine h = absurd h
any-byte from (p ∷ rest) a b fine (inl h) = piece-here p rest a b h
any-byte from (p ∷ rest) a b fine (inr h) =
    piece-there p rest a (inr (fine-above (end_of p) rest a b fine.1 h)) ∙ any-byte (end_of p) rest a b fine.1 h

-- finished pieces load the same bytes as the pieces
pub any-finished : (pieces : List Loaded) (a b : ℕ) → AnyLoads pieces a b → AnyLoads (map finished pieces) a b
any-finished [] a b h = h
any-finished (p ∷ rest) a b (inl h) = inl (finished-loads p a b h)
any-finished (p ∷ rest) a b (inr h) = inr (any-finished rest a b h)

pub finished-any : (pieces : List Loaded) (a b : ℕ) → AnyLoads (map finished pieces) a b → AnyLoads pieces a b
finished-any [] a b h = h
finished-any (p ∷ rest) a b (inl h) = inl (loads-finished p a b h)
finished-any (p ∷ rest) a b (inr h) = inr (finished-any rest a b h)

pub all-finished : (from : ℕ) (pieces : List Loaded) → Fine from pieces → Fine from (map finished pieces)
all-finished from [] fine = tt
all-finished from (p ∷ rest) fine = (fine-finished from p fine.0, rw (finished-end p) (all-finished (end_of p) rest fine.1))

pub permissions-of : (from : ℕ) (pieces : List Loaded) → Fine from pieces → AllPermissions pieces
permissions-of from [] fine = tt
permissions-of from (p ∷ rest) fine = (small-bits p.heading.permissions fine.0.permissions, permissions-of (end_of p) rest fine.1)
