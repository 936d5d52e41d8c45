-- A file that is made of pieces loads them.
use Rattle.std.proofs.Common.{◌≡◌, ℕ, ◌+◌, ◌-◌, Bool, true, false, List, [], ◌∷◌, ◌++◌, length, map, take, drop, replicate, refl, sym, ap, ◌∙◌, arith, append_assoc, filter}
use Rattle.std.specs.Prelude.{◌%◌}
use Rattle.std.specs.List.{flat_map}
use Rattle.std.proofs.Math.Seq.{drop-append_seam, take-append_seam}
use Rattle.std.proofs.lemmas.List.{length-append, length-replicate, map-append}
use Rattle.std.proofs.lemmas.List.Elements.{filter-append}
use Rattle.elf_file.specs.Segment.{is_load}
use Rattle.image.specs.Constant.{PAGE}
use Rattle.image.specs.Loading.{Loaded, loaded_at}
use Rattle.image.specs.Permissions.{permission_bits}
use Rattle.executable.specs.File.{piece_bytes, load_header, load_headers, own_header, put_in_order}
use Rattle.executable.specs.Place.{headers_size}

-- the permissions of each piece have only the bits of p_flags that permit reading, writing or executing
abbrev pub AllPermissions : List Loaded → Type 0
AllPermissions [] = Unit {0}
AllPermissions (p ∷ rest) = (permission_bits p.heading.permissions ≡ p.heading.permissions) × AllPermissions rest

pad : List ℕ → List ℕ
pad xs = replicate ((PAGE - length xs % PAGE) % PAGE) 0

contents-at : (F pre lead c more : List ℕ) (at : ℕ) → F ≡ pre ++ (lead ++ (c ++ more)) → length pre ≡ at → take (length c) (drop (at + length lead) F) ≡ c
contents-at F pre lead c more at e f =
    let cut : drop (at + length lead) F ≡ c ++ more =
    ap (λ s. drop (at + length lead) s) (e ∙ sym (append_assoc pre lead (c ++ more)))
    ∙ ap (λ n. drop n ((pre ++ lead) ++ (c ++ more))) (let l = length-append pre lead in omega (arith, l, f))
    ∙ drop-append_seam (pre ++ lead) (c ++ more) in
    ap (λ s. take (length c) s) cut ∙ take-append_seam c more

same-loaded : (a b c a' b' c' : ℕ) (s s' : List ℕ) → a ≡ a' → b ≡ b' → c ≡ c' → s ≡ s'
    → (let l : Loaded = record { heading = record { address = a; permissions = b; size = c }; contents = s } in l)
    ≡ (let l : Loaded = record { heading = record { address = a'; permissions = b'; size = c' }; contents = s' } in l)
same-loaded a b c a' b' c' s s' p q r t = cc

-- the PT_LOAD of a piece loads the piece, if the piece's pages are at its offset
piece-loaded : (F pre more : List ℕ) (p : Loaded) (at : ℕ) → F ≡ pre ++ (piece_bytes p ++ more) → length pre ≡ at → permission_bits p.heading.permissions ≡ p.heading.permissions
    → loaded_at 0 F (load_header at p) ≡ p
unfolding piece_bytes pad
piece-loaded F pre more p at e f perms =
    let lead : List ℕ = replicate (p.heading.address % PAGE) 0 in
    let tail : List ℕ = pad (lead ++ p.contents) in
    let split : F ≡ pre ++ (lead ++ (p.contents ++ (tail ++ more))) = e ∙ ap (λ s. pre ++ s) (simp append_assoc) in
    let long : length lead ≡ p.heading.address % PAGE = length-replicate {A = ℕ} (p.heading.address % PAGE) 0 in
    same-loaded _ _ _ p.heading.address p.heading.permissions p.heading.size _ p.contents (omega arith) perms refl
    (ap (λ n. take (length p.contents) (drop (at + n) F)) (sym long) ∙ contents-at F pre lead p.contents (tail ++ more) at split f)

-- the PT_LOADs of the pieces load the pieces
pub pieces-loaded : (F pre : List ℕ) (pieces : List Loaded) (at : ℕ) → F ≡ pre ++ flat_map piece_bytes pieces → length pre ≡ at → AllPermissions pieces
    → map (loaded_at 0 F) (load_headers at pieces) ≡ pieces
pieces-loaded F pre [] at e f perms = refl
pieces-loaded F pre (p ∷ rest) at e f perms =
    ap (λ x. x ∷ map (loaded_at 0 F) (load_headers (at + length (piece_bytes p)) rest)) (piece-loaded F pre (flat_map piece_bytes rest) p at e f perms.0)
    ∙ ap (λ xs. p ∷ xs) (pieces-loaded F (pre ++ piece_bytes p) rest (at + length (piece_bytes p))
    (e ∙ sym (append_assoc pre (piece_bytes p) (flat_map piece_bytes rest))) (let l = length-append pre (piece_bytes p) in omega (arith, l, f)) perms.1)

-- the PT_LOAD of the headers loads the headers
pub own-loaded : (F front more : List ℕ) (place n : ℕ) → F ≡ front ++ more → length front ≡ headers_size n
    → loaded_at 0 F (own_header place n) ≡ (let l : Loaded = record { heading = record { address = place; permissions = 4; size = headers_size n }; contents = front } in l)
own-loaded F front more place n e f =
    same-loaded _ _ _ place 4 (headers_size n) _ front (omega arith) refl refl
    (ap (λ s. take (headers_size n) s) e ∙ ap (λ k. take k (front ++ more)) (sym f) ∙ take-append_seam front more)

pub all-loads : (at : ℕ) (pieces : List Loaded) → filter is_load (load_headers at pieces) ≡ load_headers at pieces
all-loads at [] = refl
all-loads at (p ∷ rest) = ap (λ xs. load_header at p ∷ xs) (all-loads (at + length (piece_bytes p)) rest)

pub map-put_in_order : {X Y : Type 0} (f : X → Y) (b : Bool) (x : X) (xs : List X) → map f (put_in_order b x xs) ≡ put_in_order b (f x) (map f xs)
map-put_in_order f true x xs = refl
map-put_in_order f false x xs = map-append f xs (x ∷ [])

pub loads-put_in_order : (b : Bool) (place n at : ℕ) (pieces : List Loaded)
    → filter is_load (put_in_order b (own_header place n) (load_headers at pieces)) ≡ put_in_order b (own_header place n) (load_headers at pieces)
loads-put_in_order true place n at pieces = ap (λ xs. own_header place n ∷ xs) (all-loads at pieces)
loads-put_in_order false place n at pieces =
    filter-append is_load (load_headers at pieces) (own_header place n ∷ []) ∙ ap (λ xs. xs ++ own_header place n ∷ []) (all-loads at pieces)
