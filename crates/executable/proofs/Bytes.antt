-- The byte that segments and pieces have at an address.
use Rattle.std.proofs.Common.{◌≡◌, ℕ, ◌+◌, ◌-◌, ◌<◌, ◌≤◌, ◌⊎◌, inl, inr, Bool, true, false, cond, List, ◌∷◌, ◌++◌, length, get_or, replicate, slice_index, Some, refl, sym, ap, ◌∙◌, arith}
use Rattle.std.specs.List.{find}
use Rattle.std.specs.Option.{option_map}
use Rattle.std.proofs.lemmas.Grind.{common_steps}
use Rattle.std.proofs.lemmas.Bool.Decides.{nat_tests}
use Rattle.std.proofs.lemmas.List.{get_or_past, get_or_append_left, get_or-append_right, length-append, length-replicate}
use Rattle.image.specs.Heading.{holds}
use Rattle.image.specs.Image.{ImageSegment, heading, segments_byte}
use Rattle.image.specs.Loading.{Loaded, loaded_byte, loaded_byte_at}
use Rattle.executable.specs.Piece.{end_of}

-- byte i of a piece is that of its contents, or 0 after them
pub loaded-is : (p : Loaded) (i : ℕ) → loaded_byte p i ≡ get_or p.contents i 0
loaded-is p i = grind (arith, nat_tests, get_or_past)

-- a segment has byte b at address a
pub record HasByte (s : ImageSegment) (a b : ℕ) : Type 0 where
  pub from : s.address ≤ a
  pub to : a < s.address + length s.bytes
  pub is : get_or s.bytes (a - s.address) 0 ≡ b

-- a piece loads byte b at address a
pub record Loads (p : Loaded) (a b : ℕ) : Type 0 where
  pub from : p.heading.address ≤ a
  pub to : a < end_of p
  pub is : get_or p.contents (a - p.heading.address) 0 ≡ b

some-same : {X : Type 0} (x y : X) → Some x ≡ Some y → x ≡ y
some-same x y e = cc

-- if `s` and the segments after it have byte b at address a, `s` has it, or the segments after it have
-- it
segment-by : (s : ImageSegment) (rest : List ImageSegment) (a b : ℕ) (t : Bool) → holds a (heading s) ≡ t
    → option_map (λ s. slice_index s.bytes (a - s.address)) (cond t (Some s) (find (λ s. holds a (heading s)) rest)) ≡ Some b
    → HasByte s a b ⊎ (segments_byte rest a ≡ Some b)
segment-by s rest a b true e h =
    inl (record { from = grind (arith, nat_tests); to = grind (arith, nat_tests); is = some-same (get_or s.bytes (a - s.address) 0) b h })
segment-by s rest a b false e h = inr h

pub segment-cases : (s : ImageSegment) (rest : List ImageSegment) (a b : ℕ) → segments_byte (s ∷ rest) a ≡ Some b → HasByte s a b ⊎ (segments_byte rest a ≡ Some b)
segment-cases s rest a b h = segment-by s rest a b (holds a (heading s)) refl h

pub segment-here : (s : ImageSegment) (rest : List ImageSegment) (a b : ℕ) → HasByte s a b → segments_byte (s ∷ rest) a ≡ Some b
segment-here s rest a b h =
    let from = h.from in
    let to = h.to in
    let e : holds a (heading s) ≡ true = grind (arith, nat_tests) in
    ap (λ t. option_map (λ s. slice_index s.bytes (a - s.address)) (cond t (Some s) (find (λ s. holds a (heading s)) rest))) e
    ∙ ap (λ n. Some n) h.is

pub segment-there : (s : ImageSegment) (rest : List ImageSegment) (a : ℕ) → (a < s.address) ⊎ (s.address + length s.bytes ≤ a) → segments_byte (s ∷ rest) a ≡ segments_byte rest a
segment-there s rest a h =
    let e : holds a (heading s) ≡ false = grind (arith, nat_tests) in
    ap (λ t. option_map (λ s. slice_index s.bytes (a - s.address)) (cond t (Some s) (find (λ s. holds a (heading s)) rest))) e

-- if p and the pieces after it load byte b at address a, p loads it, or the pieces after it load it
piece-by : (p : Loaded) (rest : List Loaded) (a b : ℕ) (t : Bool) → holds a p.heading ≡ t
    → option_map (λ s. loaded_byte s (a - s.heading.address)) (cond t (Some p) (find (λ s. holds a s.heading) rest)) ≡ Some b
    → Loads p a b ⊎ (loaded_byte_at rest a ≡ Some b)
piece-by p rest a b true e h =
    inl (record {
      from = grind (arith, nat_tests);
      to = grind (arith, nat_tests);
      is = sym (loaded-is p (a - p.heading.address)) ∙ some-same (loaded_byte p (a - p.heading.address)) b h;
    })
piece-by p rest a b false e h = inr h

pub piece-cases : (p : Loaded) (rest : List Loaded) (a b : ℕ) → loaded_byte_at (p ∷ rest) a ≡ Some b → Loads p a b ⊎ (loaded_byte_at rest a ≡ Some b)
piece-cases p rest a b h = piece-by p rest a b (holds a p.heading) refl h

pub piece-here : (p : Loaded) (rest : List Loaded) (a b : ℕ) → Loads p a b → loaded_byte_at (p ∷ rest) a ≡ Some b
piece-here p rest a b h =
    let from = h.from in
    let to = h.to in
    let e : holds a p.heading ≡ true = grind (arith, nat_tests) in
    ap (λ t. option_map (λ s. loaded_byte s (a - s.heading.address)) (cond t (Some p) (find (λ s. holds a s.heading) rest))) e
    ∙ ap (λ n. Some n) (loaded-is p (a - p.heading.address) ∙ h.is)

pub piece-there : (p : Loaded) (rest : List Loaded) (a : ℕ) → (a < p.heading.address) ⊎ (end_of p ≤ a) → loaded_byte_at (p ∷ rest) a ≡ loaded_byte_at rest a
piece-there p rest a h =
    let e : holds a p.heading ≡ false = grind (arith, nat_tests) in
    ap (λ t. option_map (λ s. loaded_byte s (a - s.heading.address)) (cond t (Some p) (find (λ s. holds a s.heading) rest))) e

-- a list followed by g zeros has the list's bytes and then zeros, whatever follows the zeros
pub front-byte : (c bs : List ℕ) (g i : ℕ) → i < length c + g → get_or (c ++ replicate g 0 ++ bs) i 0 ≡ get_or c i 0
front-byte c bs g i h =
    get_or_append_left (c ++ replicate g 0) bs 0 i (omega (arith, length-append c (replicate g 0), length-replicate {A = ℕ} g 0))
    ∙ grind (arith, common_steps, get_or_past)

pub back-byte : (c bs : List ℕ) (g n i : ℕ) → length c + g ≡ n → n ≤ i → get_or (c ++ replicate g 0 ++ bs) i 0 ≡ get_or bs (i - n) 0
back-byte c bs g n i e h =
    get_or-append_right (c ++ replicate g 0) bs n i 0 (length-append c (replicate g 0) ∙ omega (arith, length-replicate {A = ℕ} g 0)) h
