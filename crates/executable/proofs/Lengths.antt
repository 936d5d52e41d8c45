-- The lengths of the parts of a file.
use Rattle.std.proofs.Common.{◌≡◌, ℕ, ◌+◌, ◌-◌, ◌*◌, ◌≤◌, Bool, true, false, List, [], ◌∷◌, ◌++◌, length, replicate, refl, ap, ◌∙◌, arith}
use Rattle.std.specs.Prelude.{◌%◌, ◌^◌}
use Rattle.std.specs.Int.{next_multiple_of}
use Rattle.std.specs.List.{flat_map}
use Rattle.std.proofs.lemmas.List.{length-append, length-replicate}
use Rattle.elf_file.specs.declared.segment.ProgramHeader.{ProgramHeader}
use Rattle.image.specs.Constant.{PAGE, MEMORY_LIMIT}
use Rattle.image.specs.Loading.{Loaded}
use Rattle.executable.specs.File.{padded, piece_bytes, file_header, header_bytes, load_headers, put_in_order, table_of, front_of, own_header, stack_header, is_below}
use Rattle.executable.specs.Place.{headers_size, header_count_of}
use Rattle.executable.proofs.Reading.{length-header_bytes}

pub length-padded : (xs : List ℕ) → length (padded xs) ≡ next_multiple_of (length xs) PAGE
length-padded xs =
    length-append xs (replicate ((PAGE - length xs % PAGE) % PAGE) 0)
    ∙ ap (λ n. length xs + n) (length-replicate {A = ℕ} ((PAGE - length xs % PAGE) % PAGE) 0)

pub length-piece_bytes : (p : Loaded) → length (piece_bytes p) ≡ next_multiple_of (p.heading.address % PAGE + length p.contents) PAGE
unfolding piece_bytes
length-piece_bytes p =
    length-padded (replicate (p.heading.address % PAGE) 0 ++ p.contents)
    ∙ ap (λ n. next_multiple_of n PAGE) (length-append (replicate (p.heading.address % PAGE) 0) p.contents ∙ ap (λ n. n + length p.contents) (length-replicate {A = ℕ} (p.heading.address % PAGE) 0))

pub short-piece : (p : Loaded) → length p.contents ≤ MEMORY_LIMIT → length (piece_bytes p) ≤ 2 ^ 48
short-piece p h = let e = length-piece_bytes p in omega (arith, e, h)

pub length-tables : (hs : List ProgramHeader) → length (flat_map header_bytes hs) ≡ 56 * length hs
length-tables [] = refl
length-tables (h ∷ rest) =
    let l = length-append (header_bytes h) (flat_map header_bytes rest) in
    let ih = length-tables rest in
    omega (arith, l, length-header_bytes h, ih)

pub length-front_of : (entry : ℕ) (table : List ProgramHeader) → length (front_of entry table) ≡ headers_size (length table)
unfolding front_of
length-front_of entry table =
    length-append (file_header entry (length table)) (flat_map header_bytes table) ∙ ap (λ n. 64 + n) (length-tables table)

length-load_headers : (at : ℕ) (pieces : List Loaded) → length (load_headers at pieces) ≡ length pieces
length-load_headers at [] = refl
length-load_headers at (p ∷ rest) = let e = length-load_headers (at + length (piece_bytes p)) rest in omega (arith, e)

length-put_in_order : {X : Type 0} (b : Bool) (x : X) (xs : List X) → length (put_in_order b x xs) ≡ length xs + 1
length-put_in_order true x xs = omega arith
length-put_in_order false x xs = length-append xs (x ∷ [])

pub length-table_of : (place : ℕ) (pieces : List Loaded) → length (table_of place pieces) ≡ header_count_of pieces
length-table_of place pieces =
    let n = header_count_of pieces in
    let at : ℕ = length (padded (replicate (headers_size n) 0)) in
    let xs : List ProgramHeader = put_in_order (is_below place pieces) (own_header place n) (load_headers at pieces) in
    let l = length-put_in_order (is_below place pieces) (own_header place n) (load_headers at pieces) in
    let k = length-load_headers at pieces in
    let m = length-append xs (stack_header ∷ []) in
    omega (arith, l, k, m)
