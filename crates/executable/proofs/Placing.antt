-- Where a file's headers lie relative to its pieces, and the bytes that the file loads at an address.
use Rattle.std.proofs.Common.{◌≡◌, ℕ, ◌+◌, ◌-◌, ◌<◌, ◌≤◌, ◌⊎◌, inl, inr, Bool, true, false, cond, List, [], ◌∷◌, ◌++◌, length, map, refl, sym, ◌∙◌, subst, arith, Some, None, zero, suc}
use Rattle.std.specs.Prelude.{◌%◌, max, fold, nat_le}
use Rattle.std.specs.Int.{next_multiple_of}
use Rattle.std.specs.List.{All, find}
use Rattle.std.specs.Option.{option_map}
use Rattle.std.proofs.lemmas.Bool.Decides.{nat_tests}
use Rattle.image.specs.Constant.{MEMORY_LIMIT, PAGE}
use Rattle.image.specs.Heading.{holds}
use Rattle.image.specs.Loading.{Loaded, loaded_byte, loaded_byte_at}
use Rattle.executable.specs.Constant.{LOWEST}
use Rattle.executable.specs.File.{is_below, put_in_order}
use Rattle.executable.specs.Meaning.{IsApart}
use Rattle.executable.specs.Piece.{page_of, end_of}
use Rattle.executable.specs.Place.{highest_end, place_above, place_for}
use Rattle.executable.proofs.Bytes.{Loads, piece-cases, piece-there}
use Rattle.executable.proofs.Fine.{Fine}

-- each piece ends at or below address `end`
abbrev pub EndsBy : ℕ → List Loaded → Type 0
EndsBy end [] = Unit {0}
EndsBy end (p ∷ rest) = (end_of p ≤ end) × EndsBy end rest

pub record Highest (from end : ℕ) (pieces : List Loaded) : Type 0 where
  pub above : from ≤ end
  pub all : EndsBy end pieces

highest : (from end : ℕ) (pieces : List Loaded) → fold max from (map end_of pieces) ≤ end → Highest from end pieces
highest from end [] h = record { above = h; all = tt }
highest from end (p ∷ rest) h =
    let more = highest (max from (end_of p)) end rest h in
    let least = more.above in
    record { above = omega (arith, least); all = (omega (arith, least), more.all) }

pub ends-low : (from : ℕ) (pieces : List Loaded) → Fine from pieces → All (λ p. end_of p ≤ MEMORY_LIMIT) pieces
ends-low from [] fine k d h = absurd (omega (arith, h))
ends-low from (p ∷ rest) fine zero d h = fine.0.low
ends-low from (p ∷ rest) fine (suc k) d h = ends-low (end_of p) rest fine.1 k d (omega (arith, h))

pub contents-low : (from : ℕ) (pieces : List Loaded) → Fine from pieces → All (λ p. length p.contents ≤ MEMORY_LIMIT) pieces
contents-low from [] fine k d h = absurd (omega (arith, h))
contents-low from (p ∷ rest) fine zero d h = omega (arith, fine.0.low, fine.0.short)
contents-low from (p ∷ rest) fine (suc k) d h = contents-low (end_of p) rest fine.1 k d (omega (arith, h))

-- the headers lie right below the first piece, or above all pieces and below the limit
abbrev Beside : ℕ → Loaded → List Loaded → ℕ → Type 0
Beside room p rest place = (place + room ≡ page_of p.heading.address) ⊎ (EndsBy place (p ∷ rest) × (place + room ≤ MEMORY_LIMIT) × (page_of place ≡ place))

whole-page : (end : ℕ) → page_of (max LOWEST (next_multiple_of end PAGE)) ≡ max LOWEST (next_multiple_of end PAGE)
whole-page end = omega arith

above-by : (room end place : ℕ) (t : Bool) → nat_le (max LOWEST (next_multiple_of end PAGE) + room) MEMORY_LIMIT ≡ t
    → cond t (Some (max LOWEST (next_multiple_of end PAGE))) None ≡ Some place → (end ≤ place) × (place + room ≤ MEMORY_LIMIT) × (page_of place ≡ place)
above-by room end place true e h =
    let same : max LOWEST (next_multiple_of end PAGE) ≡ place = cc in
    let high : max LOWEST (next_multiple_of end PAGE) + room ≤ MEMORY_LIMIT = grind (arith, nat_tests) in
    (omega (arith, same), omega (arith, same, high), subst (λ (x : ℕ). page_of x ≡ x) same (whole-page end))
above-by room end place false e h = cc

beside-by : (room place : ℕ) (p : Loaded) (rest : List Loaded) (t : Bool) → nat_le (LOWEST + room) (page_of p.heading.address) ≡ t
    → cond t (Some (page_of p.heading.address - room)) (place_above (highest_end (p ∷ rest)) room) ≡ Some place → Beside room p rest place
beside-by room place p rest true e h =
    let same : page_of p.heading.address - room ≡ place = cc in
    let high : LOWEST + room ≤ page_of p.heading.address = grind (arith, nat_tests) in
    inl (omega (arith, same, high))
beside-by room place p rest false e h =
    let a = above-by room (highest_end (p ∷ rest)) place (nat_le (max LOWEST (next_multiple_of (highest_end (p ∷ rest)) PAGE) + room) MEMORY_LIMIT) refl h in
    inr ((highest 0 place (p ∷ rest) a.0).all, a.1, a.2)

beside : (room place : ℕ) (p : Loaded) (rest : List Loaded) → place_for room (p ∷ rest) ≡ Some place → Beside room p rest place
beside room place p rest h = beside-by room place p rest (nat_le (LOWEST + room) (page_of p.heading.address)) refl h

low-by : (place : ℕ) → Some LOWEST ≡ Some place → place ≤ MEMORY_LIMIT
low-by place h = let e : LOWEST ≡ place = cc in omega (arith, e)

-- the headers lie below the limit
pub place-low : (room from place : ℕ) (pieces : List Loaded) → Fine from pieces → place_for room pieces ≡ Some place → place ≤ MEMORY_LIMIT
place-low room from place [] fine h = low-by place h
place-low room from place (p ∷ rest) fine h = elim (beside room place p rest h) [
  | inl below ↦ omega (arith, below, fine.0.low)
  | inr above ↦ omega (arith, above.1)
]

apart-of : (from : ℕ) (pieces : List Loaded) → Fine from pieces → IsApart from pieces
apart-of from [] fine = tt
apart-of from (p ∷ rest) fine = (fine.0.page, apart-of (end_of p) rest fine.1)

apart-last : (from place : ℕ) (own : Loaded) (pieces : List Loaded) → own.heading.address ≡ place → page_of place ≡ place → Fine from pieces → EndsBy place pieces → from ≤ place
    → IsApart from (pieces ++ own ∷ [])
apart-last from place own [] e page fine ends low = (subst (λ (x : ℕ). from ≤ page_of x) (sym e) (subst (λ (x : ℕ). from ≤ x) (sym page) low), tt)
apart-last from place own (p ∷ rest) e page fine ends low = (fine.0.page, apart-last (end_of p) place own rest e page fine.1 ends.1 ends.0)

append-here : (xs ys : List Loaded) (a b : ℕ) → loaded_byte_at xs a ≡ Some b → loaded_byte_at (xs ++ ys) a ≡ Some b
append-here [] ys a b h = cc
append-here (x ∷ xs) ys a b h = append-by x xs ys a b (holds a x.heading) refl (append-here xs ys a b) h
  where
    append-by : (x : Loaded) (xs ys : List Loaded) (a b : ℕ) (t : Bool) → holds a x.heading ≡ t → (loaded_byte_at xs a ≡ Some b → loaded_byte_at (xs ++ ys) a ≡ Some b)
        → option_map (λ s. loaded_byte s (a - s.heading.address)) (cond t (Some x) (find (λ s. holds a s.heading) xs)) ≡ Some b
        → option_map (λ s. loaded_byte s (a - s.heading.address)) (cond t (Some x) (find (λ s. holds a s.heading) (xs ++ ys))) ≡ Some b
    append-by x xs ys a b true e ih h = h
    append-by x xs ys a b false e ih h = ih h

fine-above : (from a b : ℕ) (pieces : List Loaded) → Fine from pieces → loaded_byte_at pieces a ≡ Some b → from ≤ a
fine-above from a b [] fine h = cc
fine-above from a b (p ∷ rest) fine h =
    let page = fine.0.page in
    elim (piece-cases p rest a b h) [
      | inl here ↦ omega (arith, here.from, page)
      | inr there ↦ omega (arith, page, fine-above (end_of p) a b rest fine.1 there)
    ]

append-cases : (own : Loaded) (pieces : List Loaded) (a b : ℕ) → loaded_byte_at (pieces ++ own ∷ []) a ≡ Some b → Loads own a b ⊎ (loaded_byte_at pieces a ≡ Some b)
append-cases own [] a b h = elim (piece-cases own [] a b h) [ inl here ↦ inl here | inr none ↦ inr none ]
append-cases own (p ∷ rest) a b h = append-more own p rest a b (holds a p.heading) refl (append-cases own rest a b) h
  where
    append-more : (own p : Loaded) (rest : List Loaded) (a b : ℕ) (t : Bool) → holds a p.heading ≡ t → (loaded_byte_at (rest ++ own ∷ []) a ≡ Some b → Loads own a b ⊎ (loaded_byte_at rest a ≡ Some b))
        → option_map (λ s. loaded_byte s (a - s.heading.address)) (cond t (Some p) (find (λ s. holds a s.heading) (rest ++ own ∷ []))) ≡ Some b
        → Loads own a b ⊎ (option_map (λ s. loaded_byte s (a - s.heading.address)) (cond t (Some p) (find (λ s. holds a s.heading) rest)) ≡ Some b)
    append-more own p rest a b true e ih h = inr h
    append-more own p rest a b false e ih h = ih h

-- the headers and the pieces together share no page, and load the bytes of both and no others
pub record Ordered (own : Loaded) (place : ℕ) (pieces : List Loaded) : Type 0 where
  pub apart : IsApart 0 (put_in_order (is_below place pieces) own pieces)
  pub keeps : (a b : ℕ) → loaded_byte_at pieces a ≡ Some b → loaded_byte_at (put_in_order (is_below place pieces) own pieces) a ≡ Some b
  pub only : (a b : ℕ) → loaded_byte_at (put_in_order (is_below place pieces) own pieces) a ≡ Some b → Loads own a b ⊎ (loaded_byte_at pieces a ≡ Some b)

ordered-below : (own : Loaded) (place room : ℕ) (p : Loaded) (rest : List Loaded) → own.heading.address ≡ place → own.heading.size ≤ room → 0 < room
    → Fine 0 (p ∷ rest) → place + room ≡ page_of p.heading.address → (t : Bool) → is_below place (p ∷ rest) ≡ t
    → (IsApart 0 (put_in_order t own (p ∷ rest))) × ((a b : ℕ) → loaded_byte_at (p ∷ rest) a ≡ Some b → loaded_byte_at (put_in_order t own (p ∷ rest)) a ≡ Some b)
ordered-below own place room p rest e size some fine below false t = absurd (grind (arith, nat_tests))
ordered-below own place room p rest e size some fine below true t =
    let end : end_of own ≤ page_of p.heading.address = omega (arith, e, size, below) in
    let again : Fine (page_of p.heading.address) (p ∷ rest) =
    (record { page = omega arith; short = fine.0.short; some = fine.0.some; low = fine.0.low; permissions = fine.0.permissions }, fine.1) in (
      (omega arith, (end, apart-of (end_of p) rest fine.1)),
      λ a b h. piece-there own (p ∷ rest) a (inr (omega (arith, end, fine-above (page_of p.heading.address) a b (p ∷ rest) again h))) ∙ h,
    )

ordered-above : (own : Loaded) (place : ℕ) (p : Loaded) (rest : List Loaded) → own.heading.address ≡ place
    → Fine 0 (p ∷ rest) → EndsBy place (p ∷ rest) → page_of place ≡ place → (t : Bool) → is_below place (p ∷ rest) ≡ t
    → (IsApart 0 (put_in_order t own (p ∷ rest))) × ((a b : ℕ) → loaded_byte_at (p ∷ rest) a ≡ Some b → loaded_byte_at (put_in_order t own (p ∷ rest)) a ≡ Some b)
ordered-above own place p rest e fine ends page false t =
    (apart-last 0 place own (p ∷ rest) e page fine ends (omega arith), λ a b h. append-here (p ∷ rest) (own ∷ []) a b h)
ordered-above own place p rest e fine ends page true t =
    let some = fine.0.some in
    let end = ends.0 in
    absurd (grind (arith, nat_tests))

order-cases : (t : Bool) (own : Loaded) (pieces : List Loaded) (a b : ℕ) → loaded_byte_at (put_in_order t own pieces) a ≡ Some b → Loads own a b ⊎ (loaded_byte_at pieces a ≡ Some b)
order-cases true own pieces a b h = piece-cases own pieces a b h
order-cases false own pieces a b h = append-cases own pieces a b h

pub ordered : (own : Loaded) (place room : ℕ) (pieces : List Loaded) → own.heading.address ≡ place → own.heading.size ≤ room → 0 < room
    → Fine 0 pieces → place_for room pieces ≡ Some place → Ordered own place pieces
ordered own place room [] e size some fine h = record {
  apart = (omega arith, tt);
  keeps = λ a b found. absurd (let n : None ≡ Some b = found in cc);
  only = λ a b found. order-cases true own [] a b found;
}
ordered own place room (p ∷ rest) e size some fine h =
    let both : (IsApart 0 (put_in_order (is_below place (p ∷ rest)) own (p ∷ rest)))
    × ((a b : ℕ) → loaded_byte_at (p ∷ rest) a ≡ Some b → loaded_byte_at (put_in_order (is_below place (p ∷ rest)) own (p ∷ rest)) a ≡ Some b) =
    elim (beside room place p rest h) [
      | inl below ↦ ordered-below own place room p rest e size some fine below (is_below place (p ∷ rest)) refl
      | inr above ↦ ordered-above own place p rest e fine above.0 above.2 (is_below place (p ∷ rest)) refl
    ] in
    record { apart = both.0; keeps = both.1; only = λ a b found. order-cases (is_below place (p ∷ rest)) own (p ∷ rest) a b found }

whole-by : (place : ℕ) → Some LOWEST ≡ Some place → place % PAGE ≡ 0
whole-by place h = let e : LOWEST ≡ place = cc in subst (λ (n : ℕ). n % PAGE ≡ 0) e refl

-- if the headers' room is whole pages, the headers begin at the beginning of a page
pub place-whole : (size place : ℕ) (pieces : List Loaded) → place_for (next_multiple_of size PAGE) pieces ≡ Some place → place % PAGE ≡ 0
place-whole size place [] h = whole-by place h
place-whole size place (p ∷ rest) h = elim (beside (next_multiple_of size PAGE) place p rest h) [
  | inl below ↦ omega (arith, below)
  | inr above ↦ omega (arith, above.2)
]
