-- The fields at the beginning of a file.
use Rattle.std.proofs.Common.{◌≡◌, ℕ, ◌+◌, ◌≤◌, List, ◌++◌, length, take, drop, ap, sym, ◌∙◌, arith, append_assoc}
use Rattle.std.proofs.lemmas.List.{take-append-le, drop-append-le, length-drop}
use Rattle.std.specs.List.{flat_map}
use Rattle.byteorder.specs.Endian.{little_number}
use Rattle.byteorder.specs.Numbers.{little_from-take}
use Rattle.elf_file.specs.Header.{header_count}
use Rattle.elf_file.specs.Number.{number_at}
use Rattle.image.specs.Loading.{Loaded}
use Rattle.executable.specs.File.{file_with, piece_bytes}

-- a number of two bytes that lies within the first list is the same if other bytes follow
in-front : (xs ys : List ℕ) (at : ℕ) → at + 2 ≤ length xs → number_at 2 (xs ++ ys) at ≡ number_at 2 xs at
unfolding number_at
in-front xs ys at h =
    sym (little_from-take 0 2 2 (drop at (xs ++ ys)) (omega arith))
    ∙ ap (λ (l : List ℕ). little_number 2 l) (ap (take 2) (drop-append-le at xs ys (omega (arith, h))) ∙ take-append-le 2 (drop at xs) ys (omega (arith, h, length-drop at xs)))
    ∙ little_from-take 0 2 2 (drop at xs) (omega arith)

-- the number of program headers of a file is the one in its front
pub count-in-front : (front : List ℕ) (pieces : List Loaded) → 64 ≤ length front → header_count (file_with front pieces) ≡ number_at 2 front 56
unfolding file_with
count-in-front front pieces h =
    ap (λ (l : List ℕ). number_at 2 l 56) (append_assoc front _ (flat_map piece_bytes pieces)) ∙ in-front front _ 56 (omega (arith, h))
