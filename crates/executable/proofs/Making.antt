-- The pieces made of segments load the bytes of the segments, before any piece is joined to one in which
-- it continues.
use Rattle.std.proofs.Common.{◌≡◌, ℕ, ◌+◌, ◌-◌, ◌<◌, ◌≤◌, ◌⊎◌, inl, inr, Bool, true, false, cond, List, [], ◌∷◌, ◌++◌, length, get_or, Some, refl, sym, ◌∙◌, subst, arith}
use Rattle.std.specs.Prelude.{◌==◌}
use Rattle.std.proofs.lemmas.Bool.Decides.{leb_tells}
use Rattle.image.specs.Image.{AreRising, ImageSegment, segments_byte}
use Rattle.image.specs.Loading.{Loaded}
use Rattle.image.specs.Constant.{MEMORY_LIMIT}
use Rattle.executable.specs.Piece.{page_of, end_of, piece_of, followed, pieces_from, cut_pieces}
use Rattle.executable.proofs.Any.{AnyLoads, any-left, any-right, any-split}
use Rattle.executable.proofs.Bytes.{Loads, segment-cases, segment-here, segment-there}
use Rattle.executable.proofs.Fine.{FinePiece, Fine, bits-small, fine-behind}
use Rattle.executable.proofs.Following.{Origin, follows}
use Rattle.executable.proofs.Joining.{piece-loads, loads-piece}
use Rattle.executable.proofs.Rising.{Rises, rises, rising-lower, rising-above, empty, filled}

-- the piece of a segment with bytes is fine
pub fine-piece : (s : ImageSegment) → (length s.bytes == 0) ≡ false → s.address + length s.bytes ≤ MEMORY_LIMIT → FinePiece 0 (piece_of s)
fine-piece s e low = record { page = omega arith; short = omega arith; some = filled s e; low = low; permissions = bits-small s.permissions }

-- a segment without bytes has no byte at any address
pub skip : (s : ImageSegment) (rest : List ImageSegment) (x : ℕ) → (length s.bytes == 0) ≡ true → segments_byte (s ∷ rest) x ≡ segments_byte rest x
skip s rest x e =
    let none = empty s e in
    elim (leb_tells s.address x) [
      | inl behind ↦ segment-there s rest x (inr (omega (arith, behind.1, none)))
      | inr before ↦ segment-there s rest x (inl before.1)
    ]

fine-by : (from : ℕ) (p : Loaded) (s : ImageSegment) (rest : List ImageSegment) (t : Bool) → (length s.bytes == 0) ≡ t
    → ((from : ℕ) (q : Loaded) → FinePiece from q → AreRising (end_of q) rest → Fine from (pieces_from q rest))
    → FinePiece from p → Rises (end_of p) s rest
    → Fine from (cond t (pieces_from p rest) ((followed p (piece_of s)).done ++ pieces_from (followed p (piece_of s)).last rest))
fine-by from p s rest true e ih f r = ih from p f (rising-lower (end_of p) (s.address + length s.bytes) rest (omega (arith, r.above)) r.others)
fine-by from p s rest false e ih f r =
    let last = (followed p (piece_of s)).last in
    let all = follows p (piece_of s) from f (fine-piece s e r.low) r.above in
    all.fine (pieces_from last rest) (λ end over. ih end last (fine-behind end last over all.it) (rw all.ends r.others))

-- the pieces made of a piece and of rising segments rise, and no two share a page
fine-from : (from : ℕ) (p : Loaded) (segments : List ImageSegment) → FinePiece from p → AreRising (end_of p) segments → Fine from (pieces_from p segments)
fine-from from p [] f h = (f, tt)
fine-from from p (s ∷ rest) f h = fine-by from p s rest (length s.bytes == 0) refl (λ from q. fine-from from q rest) f (rises (end_of p) s rest h)

fine-cut-by : (from : ℕ) (s : ImageSegment) (rest : List ImageSegment) (t : Bool) → (length s.bytes == 0) ≡ t → Rises from s rest
    → Fine 0 (cut_pieces rest) → Fine 0 (cond t (cut_pieces rest) (pieces_from (piece_of s) rest))
fine-cut-by from s rest true e r ih = ih
fine-cut-by from s rest false e r ih = fine-from 0 (piece_of s) rest (fine-piece s e r.low) r.others

pub fine-cut : (from : ℕ) (segments : List ImageSegment) → AreRising from segments → Fine 0 (cut_pieces segments)
fine-cut from [] h = tt
fine-cut from (s ∷ rest) h =
    let r = rises from s rest h in
    fine-cut-by from s rest (length s.bytes == 0) refl r (fine-cut (s.address + length s.bytes) rest r.others)

-- piece p loads byte b at address a, or the segments after it have it there
abbrev pub Either : Loaded → List ImageSegment → ℕ → ℕ → Type 0
Either p segments a b = Loads p a b ⊎ (segments_byte segments a ≡ Some b)

keeps-by : (p : Loaded) (s : ImageSegment) (rest : List ImageSegment) (t : Bool) → (length s.bytes == 0) ≡ t
    → ((q : Loaded) → FinePiece 0 q → AreRising (end_of q) rest → (a b : ℕ) → Either q rest a b → AnyLoads (pieces_from q rest) a b)
    → FinePiece 0 p → Rises (end_of p) s rest → (a b : ℕ) → Either p (s ∷ rest) a b
    → AnyLoads (cond t (pieces_from p rest) ((followed p (piece_of s)).done ++ pieces_from (followed p (piece_of s)).last rest)) a b
keeps-by p s rest true e ih f r a b either =
    ih p f (rising-lower (end_of p) (s.address + length s.bytes) rest (omega (arith, r.above)) r.others) a b
    (elim either [ inl here ↦ inl here | inr there ↦ inr (sym (skip s rest a e) ∙ there) ])
keeps-by p s rest false e ih f r a b either =
    let done = (followed p (piece_of s)).done in
    let last = (followed p (piece_of s)).last in
    let all = follows p (piece_of s) 0 f (fine-piece s e r.low) r.above in
    let more : Either last rest a b → AnyLoads (done ++ pieces_from last rest) a b =
    λ h. any-right done (pieces_from last rest) a b (ih last all.it (rw all.ends r.others) a b h) in
    let two : Loads p a b ⊎ Loads (piece_of s) a b → AnyLoads (done ++ pieces_from last rest) a b =
    λ h. elim (all.keeps a b h) [ inl k ↦ any-left done (pieces_from last rest) a b k | inr k ↦ more (inl k) ] in
    elim either [
      | inl here ↦ two (inl here)
      | inr there ↦ elim (segment-cases s rest a b there) [ inl own ↦ two (inr (piece-loads s a b own)) | inr others ↦ more (inr others) ]
    ]

-- the pieces made of a piece and of the segments after it load all bytes of these
keeps : (p : Loaded) (segments : List ImageSegment) → FinePiece 0 p → AreRising (end_of p) segments
    → (a b : ℕ) → Either p segments a b → AnyLoads (pieces_from p segments) a b
keeps p [] f h a b (inl here) = inl here
keeps p [] f h a b (inr there) = cc
keeps p (s ∷ rest) f h a b either = keeps-by p s rest (length s.bytes == 0) refl (λ q. keeps q rest) f (rises (end_of p) s rest h) a b either

keeps-cut-by : (from : ℕ) (s : ImageSegment) (rest : List ImageSegment) (a b : ℕ) (t : Bool) → (length s.bytes == 0) ≡ t → Rises from s rest
    → (segments_byte rest a ≡ Some b → AnyLoads (cut_pieces rest) a b) → segments_byte (s ∷ rest) a ≡ Some b
    → AnyLoads (cond t (cut_pieces rest) (pieces_from (piece_of s) rest)) a b
keeps-cut-by from s rest a b true e r ih h = ih (sym (skip s rest a e) ∙ h)
keeps-cut-by from s rest a b false e r ih h =
    keeps (piece_of s) rest (fine-piece s e r.low) r.others a b
    (elim (segment-cases s rest a b h) [ inl here ↦ inl (piece-loads s a b here) | inr more ↦ inr more ])

-- the pieces made of rising segments load all bytes of these
pub keeps-cut : (from : ℕ) (segments : List ImageSegment) (a b : ℕ) → AreRising from segments → segments_byte segments a ≡ Some b → AnyLoads (cut_pieces segments) a b
keeps-cut from [] a b h found = cc
keeps-cut from (s ∷ rest) a b h found =
    let r = rises from s rest h in
    keeps-cut-by from s rest a b (length s.bytes == 0) refl r (keeps-cut (s.address + length s.bytes) rest a b r.others) found

-- address a lies between two addresses of one page, and `Has` is true of both
pub record Between (Has : ℕ → Type 0) (a : ℕ) : Type 0 where
  pub below : ℕ
  pub above : ℕ
  pub before : below < a
  pub behind : a < above
  pub has_below : Has below
  pub has_above : Has above
  pub page : page_of below ≡ page_of above

-- byte b at address a comes from piece p or from the segments after it, or is a 0 between two bytes of
-- one page
abbrev pub Sources : (ℕ → Type 0) → Loaded → List ImageSegment → ℕ → ℕ → Type 0
Sources Has p segments a b = Loads p a b ⊎ ((segments_byte segments a ≡ Some b) ⊎ ((b ≡ 0) × Between Has a))

same-page : (x y : ℕ) → page_of y ≤ x → x ≤ y → page_of x ≡ page_of y
same-page x y h k = omega arith

-- piece p is fine, the segments after it rise, and `Has` is true of p's last address and of each address
-- of the segments
pub record Leads (Has : ℕ → Type 0) (p : Loaded) (segments : List ImageSegment) : Type 0 where
  pub it : FinePiece 0 p
  pub rising : AreRising (end_of p) segments
  pub last : Has (end_of p - 1)
  pub all : (a b : ℕ) → segments_byte segments a ≡ Some b → Has a

-- if `Has` is true of each address at which the segments have a byte, it is true of each address of the
-- first one
own-has : (Has : ℕ → Type 0) (s : ImageSegment) (rest : List ImageSegment) → ((a b : ℕ) → segments_byte (s ∷ rest) a ≡ Some b → Has a)
    → (x : ℕ) → s.address ≤ x → x < s.address + length s.bytes → Has x
own-has Has s rest all x h k = all x (get_or s.bytes (x - s.address) 0) (segment-here s rest x (get_or s.bytes (x - s.address) 0) (record { from = h; to = k; is = refl }))

-- a byte that comes from piece p and the piece of segment s has one of the sources for p and the
-- segments
source : (Has : ℕ → Type 0) (p : Loaded) (s : ImageSegment) (rest : List ImageSegment) (a b : ℕ) → Leads Has p (s ∷ rest) → (length s.bytes == 0) ≡ false → end_of p ≤ s.address
    → Origin p (piece_of s) a b → Sources Has p (s ∷ rest) a b
source Has p s rest a b k e h o =
    let some = filled s e in
    let long = k.it.some in
    elim o [
      | inl here ↦ inl here
      | inr other ↦ elim other [
        | inl own ↦ inr (inl (segment-here s rest a b (loads-piece s a b own)))
        | inr zero ↦ inr (inr (
          zero.0,
          record {
            below = end_of p - 1;
            above = s.address;
            before = omega (arith, zero.1, long);
            behind = zero.2;
            has_below = k.last;
            has_above = own-has Has s rest k.all s.address (omega arith) (omega (arith, some));
            page = same-page (end_of p - 1) s.address (omega (arith, zero.3)) (omega (arith, h));
          },
        ))
      ]
    ]

only-by : (Has : ℕ → Type 0) (p : Loaded) (s : ImageSegment) (rest : List ImageSegment) (t : Bool) → (length s.bytes == 0) ≡ t
    → ((q : Loaded) → Leads Has q rest → (a b : ℕ) → AnyLoads (pieces_from q rest) a b → Sources Has q rest a b)
    → Leads Has p (s ∷ rest) → Rises (end_of p) s rest → (a b : ℕ)
    → AnyLoads (cond t (pieces_from p rest) ((followed p (piece_of s)).done ++ pieces_from (followed p (piece_of s)).last rest)) a b
    → Sources Has p (s ∷ rest) a b
only-by Has p s rest true e ih k r a b found =
    elim (ih p (record {
      it = k.it;
      last = k.last;
      rising = rising-lower (end_of p) (s.address + length s.bytes) rest (omega (arith, r.above)) r.others;
      all = λ x y h. k.all x y (skip s rest x e ∙ h);
    }) a b found) [
      | inl here ↦ inl here
      | inr more ↦ elim more [ inl there ↦ inr (inl (skip s rest a e ∙ there)) | inr zero ↦ inr (inr zero) ]
    ]
only-by Has p s rest false e ih k r a b found =
    let some = filled s e in
    let done = (followed p (piece_of s)).done in
    let last = (followed p (piece_of s)).last in
    let all = follows p (piece_of s) 0 k.it (fine-piece s e r.low) r.above in
    let there : (x y : ℕ) → segments_byte rest x ≡ Some y → segments_byte (s ∷ rest) x ≡ Some y =
    λ x y h. segment-there s rest x (inr (rising-above (s.address + length s.bytes) rest x y r.others h)) ∙ h in
    let end : ℕ = s.address + length s.bytes - 1 in
    let final : Has end = own-has Has s rest k.all end (omega (arith, some)) (omega (arith, some)) in
    let ends = all.ends in
    elim (any-split done (pieces_from last rest) a b found) [
      | inl h ↦ source Has p s rest a b k e r.above (all.only a b (inl h))
      | inr h ↦ elim (ih last (record {
        it = all.it;
        rising = rw all.ends r.others;
        last = subst (λ (x : ℕ). Has x) (omega (arith, ends)) final;
        all = λ x y h. k.all x y (there x y h);
      }) a b h) [
        | inl here ↦ source Has p s rest a b k e r.above (all.only a b (inr here))
        | inr more ↦ elim more [ inl other ↦ inr (inl (there a b other)) | inr zero ↦ inr (inr zero) ]
      ]
    ]

only : (Has : ℕ → Type 0) (p : Loaded) (segments : List ImageSegment) → Leads Has p segments → (a b : ℕ) → AnyLoads (pieces_from p segments) a b → Sources Has p segments a b
only Has p [] k a b found = elim found [ inl here ↦ inl here | inr none ↦ absurd none ]
only Has p (s ∷ rest) k a b found =
    only-by Has p s rest (length s.bytes == 0) refl (λ q. only Has q rest) k (rises (end_of p) s rest k.rising) a b found

-- byte b at address a comes from the segments, or is a 0 between two bytes of one page
abbrev pub Found : (ℕ → Type 0) → List ImageSegment → ℕ → ℕ → Type 0
Found Has segments a b = (segments_byte segments a ≡ Some b) ⊎ ((b ≡ 0) × Between Has a)

only-cut-by : (Has : ℕ → Type 0) (from : ℕ) (s : ImageSegment) (rest : List ImageSegment) (a b : ℕ) (t : Bool) → (length s.bytes == 0) ≡ t → Rises from s rest
    → ((x y : ℕ) → segments_byte (s ∷ rest) x ≡ Some y → Has x)
    → (((x y : ℕ) → segments_byte rest x ≡ Some y → Has x) → AnyLoads (cut_pieces rest) a b → Found Has rest a b)
    → AnyLoads (cond t (cut_pieces rest) (pieces_from (piece_of s) rest)) a b → Found Has (s ∷ rest) a b
only-cut-by Has from s rest a b true e r all ih h =
    elim (ih (λ x y found. all x y (skip s rest x e ∙ found)) h) [ inl found ↦ inl (skip s rest a e ∙ found) | inr zero ↦ inr zero ]
only-cut-by Has from s rest a b false e r all ih h =
    let some = filled s e in
    let there : (x y : ℕ) → segments_byte rest x ≡ Some y → segments_byte (s ∷ rest) x ≡ Some y =
    λ x y found. segment-there s rest x (inr (rising-above (s.address + length s.bytes) rest x y r.others found)) ∙ found in
    elim (only Has (piece_of s) rest (record {
      it = fine-piece s e r.low;
      rising = r.others;
      last = own-has Has s rest all (s.address + length s.bytes - 1) (omega (arith, some)) (omega (arith, some));
      all = λ x y found. all x y (there x y found);
    }) a b h) [
      | inl own ↦ inl (segment-here s rest a b (loads-piece s a b own))
      | inr more ↦ elim more [ inl found ↦ inl (there a b found) | inr zero ↦ inr zero ]
    ]

-- each byte that the pieces load comes from the segments, or is a 0 between two bytes of one page
pub only-cut : (Has : ℕ → Type 0) (from : ℕ) (segments : List ImageSegment) (a b : ℕ) → AreRising from segments
    → ((x y : ℕ) → segments_byte segments x ≡ Some y → Has x) → AnyLoads (cut_pieces segments) a b → Found Has segments a b
only-cut Has from [] a b h all found = absurd found
only-cut Has from (s ∷ rest) a b h all found =
    let r = rises from s rest h in
    only-cut-by Has from s rest a b (length s.bytes == 0) refl r all (λ more. only-cut Has (s.address + length s.bytes) rest a b r.others more) found
