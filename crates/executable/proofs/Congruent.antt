-- The offsets of the PT_LOADs are congruent to their addresses.
use Rattle.std.proofs.Common.{◌≡◌, ℕ, ◌+◌, Bool, true, false, List, [], ◌∷◌, ◌++◌, length, zero, suc, sym, ap, ◌∙◌, arith}
use Rattle.std.specs.Prelude.{◌%◌}
use Rattle.std.specs.Int.{next_multiple_of}
use Rattle.std.specs.List.{All}
use Rattle.elf_file.specs.declared.segment.ProgramHeader.{ProgramHeader}
use Rattle.image.specs.Constant.{PAGE}
use Rattle.image.specs.Loading.{Loaded}
use Rattle.executable.specs.File.{padded, piece_bytes, load_header, load_headers, own_header, put_in_order}
use Rattle.executable.specs.Meaning.{IsCongruent}
use Rattle.executable.proofs.Lengths.{length-piece_bytes, length-padded}

all-none : All IsCongruent []
all-none k d h = absurd (omega (arith, h))

all-cons : (x : ProgramHeader) (xs : List ProgramHeader) → IsCongruent x → All IsCongruent xs → All IsCongruent (x ∷ xs)
all-cons x xs p q zero d h = p
all-cons x xs p q (suc k) d h = q k d (omega (arith, h))

all-rest : (x : ProgramHeader) (xs : List ProgramHeader) → All IsCongruent (x ∷ xs) → All IsCongruent xs
all-rest x xs p k d h = p (suc k) d (omega (arith, h))

all-last : (x : ProgramHeader) (xs : List ProgramHeader) → IsCongruent x → All IsCongruent xs → All IsCongruent (xs ++ x ∷ [])
all-last x [] p q = all-cons x [] p all-none
all-last x (y ∷ ys) p q = all-cons y (ys ++ x ∷ []) (q zero y (omega arith)) (all-last x ys p (all-rest y ys q))

whole : (size : ℕ) → next_multiple_of size PAGE % PAGE ≡ 0
whole size = omega arith

same-by : (at a : ℕ) → at % PAGE ≡ 0 → (at + a % PAGE) % PAGE ≡ a % PAGE
same-by at a h = omega (arith, h)

sum-whole : (at n : ℕ) → at % PAGE ≡ 0 → n % PAGE ≡ 0 → (at + n) % PAGE ≡ 0
sum-whole at n h k = omega (arith, h, k)

loads-congruent : (at : ℕ) (pieces : List Loaded) → at % PAGE ≡ 0 → All IsCongruent (load_headers at pieces)
loads-congruent at [] h = all-none
loads-congruent at (p ∷ rest) h =
    all-cons (load_header at p) (load_headers (at + length (piece_bytes p)) rest) (same-by at p.heading.address h)
    (loads-congruent (at + length (piece_bytes p)) rest
    (sum-whole at (length (piece_bytes p)) h (ap (λ (n : ℕ). n % PAGE) (length-piece_bytes p) ∙ whole (p.heading.address % PAGE + length p.contents))))

pub in-order-congruent : (b : Bool) (place n : ℕ) (bytes : List ℕ) (pieces : List Loaded) → place % PAGE ≡ 0
    → All IsCongruent (put_in_order b (own_header place n) (load_headers (length (padded bytes)) pieces))
in-order-congruent b place n bytes pieces h =
    ordered-by b (own_header place n) (load_headers (length (padded bytes)) pieces) (sym h)
    (loads-congruent (length (padded bytes)) pieces (ap (λ (k : ℕ). k % PAGE) (length-padded bytes) ∙ whole (length bytes)))
  where
    ordered-by : (b : Bool) (x : ProgramHeader) (xs : List ProgramHeader) → IsCongruent x → All IsCongruent xs → All IsCongruent (put_in_order b x xs)
    ordered-by true x xs p q = all-cons x xs p q
    ordered-by false x xs p q = all-last x xs p q
