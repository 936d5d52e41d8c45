-- Lemmas about names in a row: the parts that the bytes 0 separate, and the end of a row.
use Rattle.std.proofs.Common.{◌≡◌, ◌≢◌, ◌⊎◌, ◌-◌, ◌<◌, ℕ, Bool, true, false, nat_eq, List, [], ◌∷◌, ◌++◌, All, length, get_or, refl, sym, ◌∙◌, ap, subst, inl, inr, append_assoc, arith}
use Rattle.std.proofs.lemmas.Bool.Decides.{eqb_tells}
use Rattle.std.proofs.lemmas.List.{length-append, append-nil}
use Rattle.std.proofs.lemmas.List.Elements.{All-nil, All-cons, All-head, All-tail, All-same}
use Rattle.std.proofs.lemmas.List.Splits.{slice_split-cons_yes, slice_split-cons_no, join_with_byte-slice_split, length-slice_split}
use Rattle.std.proofs.Math.Seq.{get_or-append_seam, get_or-append_right}
use Rattle.std.specs.List.{flat_map, slice_split, onto_first, join_with_byte}
use Rattle.c_answers.specs.Names.{AreNames}

-- a name with a byte 0 after it
abbrev pub with_end : List ℕ → List ℕ
with_end name = name ++ 0 ∷ []

abbrev pub is_end : ℕ → Bool
is_end byte = nat_eq byte 0

-- the name has no byte 0
abbrev pub IsWhole : List ℕ → Type 0
IsWhole name = All (λ byte. byte ≢ 0) name

-- Parts with a byte 0 after each are the parts that a byte 0 separates, and one more byte 0 at the end.
ends_joined : (part : List ℕ) (parts : List (List ℕ)) → flat_map with_end (part ∷ parts) ≡ join_with_byte 0 (part ∷ parts) ++ 0 ∷ []
ends_joined part [] = append-nil (with_end part)
ends_joined part (next ∷ parts) =
    let joined = join_with_byte 0 (next ∷ parts) in
    ap (λ l. with_end part ++ l) (ends_joined next parts) ∙ append_assoc part (0 ∷ []) (joined ++ 0 ∷ []) ∙ sym (append_assoc part (0 ∷ joined) (0 ∷ []))

some_joined : (parts : List (List ℕ)) → 0 < length parts → flat_map with_end parts ≡ join_with_byte 0 parts ++ 0 ∷ []
some_joined [] some = absurd (omega arith)
some_joined (part ∷ parts) some = ends_joined part parts

-- the parts of `bytes`, with a byte 0 after each, are `bytes` and one byte 0
split_ends : (bytes : List ℕ) → flat_map with_end (slice_split is_end bytes) ≡ bytes ++ 0 ∷ []
split_ends bytes = some_joined (slice_split is_end bytes) (omega (arith, length-slice_split is_end bytes)) ∙ ap with_end (join_with_byte-slice_split 0 bytes)

onto_whole : (byte : ℕ) (parts : List (List ℕ)) → byte ≢ 0 → All IsWhole parts → All IsWhole (onto_first byte parts)
onto_whole byte [] not all = All-cons IsWhole (byte ∷ []) [] (All-cons (λ b. b ≢ 0) byte [] not (All-nil (λ b. b ≢ 0))) all
onto_whole byte (part ∷ parts) not all = All-cons IsWhole (byte ∷ part) parts (All-cons (λ b. b ≢ 0) byte part not (All-head IsWhole part parts all)) (All-tail IsWhole part parts all)

cut_whole : (byte : ℕ) (bytes : List ℕ) → ((is_end byte ≡ true) × (byte ≡ 0)) ⊎ ((is_end byte ≡ false) × (byte ≢ 0))
    → All IsWhole (slice_split is_end bytes) → All IsWhole (slice_split is_end (byte ∷ bytes))
cut_whole byte bytes (inl end) all = All-same IsWhole (slice_split is_end (byte ∷ bytes)) ([] ∷ slice_split is_end bytes)
    (slice_split-cons_yes is_end byte bytes end.0) (All-cons IsWhole [] (slice_split is_end bytes) (All-nil (λ b. b ≢ 0)) all)
cut_whole byte bytes (inr other) all = All-same IsWhole (slice_split is_end (byte ∷ bytes)) (onto_first byte (slice_split is_end bytes))
    (slice_split-cons_no is_end byte bytes other.0) (onto_whole byte (slice_split is_end bytes) other.1 all)

-- no part of the bytes has a byte 0
split_whole : (bytes : List ℕ) → All IsWhole (slice_split is_end bytes)
split_whole [] = All-cons IsWhole [] [] (All-nil (λ b. b ≢ 0)) (All-nil IsWhole)
split_whole (byte ∷ bytes) = cut_whole byte bytes (eqb_tells byte 0) (split_whole bytes)

-- If the last byte is 0, the parts of the bytes before it are names in a row.
pub split_names : (bytes front : List ℕ) (last : ℕ) (names : List (List ℕ)) → bytes ≡ front ++ last ∷ [] → last ≡ 0 → names ≡ slice_split is_end front → AreNames names bytes
split_names bytes front last names is zero cut = record {
  row = is ∙ ap (λ b. front ++ b ∷ []) zero ∙ sym (split_ends front) ∙ ap (flat_map with_end) (sym cut);
  apart = All-same IsWhole names (slice_split is_end front) cut (split_whole front);
}

-- the last byte of `front` and `last` is `last`
last_of : (front : List ℕ) (last : ℕ) → get_or (front ++ last ∷ []) (length (front ++ last ∷ []) - 1) 0 ≡ last
last_of front last = ap (λ i. get_or (front ++ last ∷ []) i 0) (omega (arith, length-append front (last ∷ []))) ∙ get_or-append_seam front last [] 0

-- if bytes end with 0, and the bytes after them do too or there are none, all of them together end with
-- 0
zero_behind : (bytes rest : List ℕ) → get_or bytes (length bytes - 1) 0 ≡ 0 → get_or rest (length rest - 1) 0 ≡ 0 → get_or (bytes ++ rest) (length (bytes ++ rest) - 1) 0 ≡ 0
zero_behind bytes [] ends _ = subst (λ l. get_or l (length l - 1) 0 ≡ 0) (sym (append-nil bytes)) ends
zero_behind bytes (r ∷ rest) _ ends =
    get_or-append_right bytes (r ∷ rest) (length (bytes ++ r ∷ rest) - 1) 0 (omega (arith, length-append bytes (r ∷ rest)))
    ∙ ap (λ i. get_or (r ∷ rest) i 0) (omega (arith, length-append bytes (r ∷ rest)))
    ∙ ends

-- names in a row end with a byte 0, if there is at least one name
row_ends : (names : List (List ℕ)) → get_or (flat_map with_end names) (length (flat_map with_end names) - 1) 0 ≡ 0
row_ends [] = refl
row_ends (name ∷ names) = zero_behind (with_end name) (flat_map with_end names) (last_of name 0) (row_ends names)

-- Bytes that don't end with 0 aren't names in a row.
pub no_names : (bytes front : List ℕ) (last : ℕ) → bytes ≡ front ++ last ∷ [] → last ≢ 0 → (names : List (List ℕ)) → AreNames names bytes → ⊥
no_names bytes front last is not names are = not (sym (last_of front last) ∙ subst (λ l. get_or l (length l - 1) 0 ≡ 0) (sym are.row ∙ is) (row_ends names))
