-- Joined pieces load what the pieces loaded before, and zeros between pieces whose pages are neighbours.
use Rattle.std.proofs.Common.{◌≡◌, ℕ, ◌+◌, ◌-◌, ◌<◌, ◌≤◌, ◌⊎◌, inl, inr, Bool, true, false, cond, List, [], ◌∷◌, ◌++◌, length, get_or, map, Some, refl, ◌∙◌, subst, arith}
use Rattle.std.specs.Prelude.{not, nat_lt, ◌&&◌, ◌==◌}
use Rattle.std.proofs.lemmas.Bool.Decides.{nat_tests}
use Rattle.image.specs.Constant.{PAGE}
use Rattle.image.specs.Image.{AreRising, ImageSegment, segments_byte}
use Rattle.image.specs.Loading.{Loaded, loaded_byte_at}
use Rattle.executable.specs.Meaning.{HasAny, IsBetween}
use Rattle.executable.specs.Piece.{Pieces, page_of, end_of, joined, finished, is_both, goes_on, merging, merged_from, merged, cut_pieces, pieces_of}
use Rattle.executable.specs.inside.Joining.{AreInRow}
use Rattle.executable.proofs.Any.{AnyLoads, any-left, any-right, any-split, byte-any}
use Rattle.executable.proofs.Bytes.{Loads}
use Rattle.executable.proofs.Fine.{FinePiece, Fine, fine-behind, fine-finished, any-byte, any-finished, finished-any, all-finished}
use Rattle.executable.proofs.Following.{Opens, at-0, joined-fine}
use Rattle.executable.proofs.Joining.{joins, finished-loads, loads-finished, finished-end}
use Rattle.executable.proofs.Making.{Between, Found, fine-cut, keeps-cut, only-cut}

-- byte b at address a comes from piece p or piece q, or is a 0 between them; no whole page lies between
-- p and q
abbrev pub Source : Loaded → Loaded → ℕ → ℕ → Type 0
Source p q a b = Loads p a b ⊎ (Loads q a b ⊎ ((b ≡ 0) × (end_of p ≤ a) × (a < q.heading.address) × (page_of q.heading.address < end_of p + PAGE)))

pub record Merges (p q : Loaded) (from : ℕ) (all : Pieces) : Type 0 where
  pub it : FinePiece 0 all.last
  pub ends : end_of all.last ≡ end_of q
  pub keeps : (a b : ℕ) → Loads p a b ⊎ Loads q a b → AnyLoads all.done a b ⊎ Loads all.last a b
  pub only : (a b : ℕ) → AnyLoads all.done a b ⊎ Loads all.last a b → Source p q a b
  pub fine : Opens from all.done all.last

-- if `goes_on` is true of two pieces, its last condition is true: the next piece is near
near-by : (s t : Bool) (x y : ℕ) → (s && t && nat_lt x y) ≡ true → x < y
near-by true true x y h = grind (arith, nat_tests)
near-by true false x y h = cc
near-by false t x y h = cc

near : (p q : Loaded) (from : ℕ) → FinePiece from p → goes_on p q ≡ true → page_of q.heading.address < end_of p + PAGE
near p q from f e =
    let h = near-by (p.heading.permissions == q.heading.permissions) (not (is_both p.heading.permissions)) (page_of q.heading.address) (p.heading.address + length p.contents + PAGE) e in
    let short = f.short in
    omega (arith, h, short)

merges-by : (p q : Loaded) (from : ℕ) (t : Bool) → goes_on p q ≡ t → FinePiece from p → FinePiece (end_of p) q
    → Merges p q from (cond t (let all : Pieces = record { done = []; last = finished (joined p q) } in all) (let all : Pieces = record { done = p ∷ []; last = q } in all))
merges-by p q from true e f g =
    let page = g.page in
    let u : Loaded = joined p q in
    let h : end_of p ≤ q.heading.address = omega (arith, page) in
    let j = joins p q f.short g.short h in
    let both : FinePiece from (finished u) = fine-finished from u (fine-behind from u f.page (joined-fine p q (at-0 p f) (at-0 q g) h)) in
    record {
      it = at-0 (finished u) both;
      ends = finished-end u ∙ j.ends;
      keeps = λ a b m. inr (finished-loads u a b (elim m [ inl n ↦ j.front a b n | inr n ↦ j.back a b n ]));
      only = λ a b m. elim m [
        | inl n ↦ absurd n
        | inr n ↦ elim (j.only a b (loads-finished u a b n)) [
          | inl o ↦ inl o
          | inr o ↦ elim o [ inl i ↦ inr (inl i) | inr z ↦ inr (inr (z.0, z.1, z.2, near p q from f e)) ]
        ]
      ];
      fine = λ more m. m from both.page;
    }
merges-by p q from false e f g = record {
  it = at-0 q g;
  ends = refl;
  keeps = λ a b m. elim m [ inl n ↦ inl (inl n) | inr n ↦ inr n ];
  only = λ a b m. elim m [ inl n ↦ elim n [ inl o ↦ inl o | inr o ↦ absurd o ] | inr n ↦ inr (inl n) ];
  fine = λ more k. (f, k (end_of p) g.page);
}

-- `Merges` is true of the pieces that merging makes of a piece and of the next one
pub merges : (p q : Loaded) (from : ℕ) → FinePiece from p → FinePiece (end_of p) q → Merges p q from (merging p q)
merges p q from f g = merges-by p q from (goes_on p q) refl f g

fine-merged-from : (from : ℕ) (p : Loaded) (rest : List Loaded) → FinePiece from p → Fine (end_of p) rest → Fine from (merged_from p rest)
fine-merged-from from p [] f r = (f, tt)
fine-merged-from from p (q ∷ rest) f r =
    let last = (merging p q).last in
    let all = merges p q from f r.0 in
    all.fine (merged_from last rest) (λ end over. fine-merged-from end last rest (fine-behind end last over all.it) (rw all.ends r.1))

-- if pieces rise and no two share a page, the same is true of the joined pieces
fine-merged : (from : ℕ) (pieces : List Loaded) → Fine from pieces → Fine from (merged pieces)
fine-merged from [] fine = tt
fine-merged from (p ∷ rest) fine = fine-merged-from from p rest fine.0 fine.1

pub fine-of : (from : ℕ) (segments : List ImageSegment) → AreRising from segments → Fine 0 (pieces_of segments)
fine-of from segments h = fine-merged 0 (map finished (cut_pieces segments)) (all-finished 0 (cut_pieces segments) (fine-cut from segments h))

pub in-row : (from : ℕ) (pieces : List Loaded) → Fine from pieces → AreInRow from pieces
in-row from [] fine = tt
in-row from (p ∷ rest) fine = let page = fine.0.page in (fine.0.short, omega (arith, page), fine.0.low, in-row (end_of p) rest fine.1)

-- the finished pieces of rising segments satisfy the requirement of `merged`
pub row-of : (segments : List ImageSegment) → AreRising 0 segments → AreInRow 0 (map finished (cut_pieces segments))
row-of segments h = in-row 0 (map finished (cut_pieces segments)) (all-finished 0 (cut_pieces segments) (fine-cut 0 segments h))

keeps-from : (p : Loaded) (rest : List Loaded) → FinePiece 0 p → Fine (end_of p) rest → (a b : ℕ) → Loads p a b ⊎ AnyLoads rest a b → AnyLoads (merged_from p rest) a b
keeps-from p [] f r a b either = either
keeps-from p (q ∷ rest) f r a b either =
    let done = (merging p q).done in
    let last = (merging p q).last in
    let all = merges p q 0 f r.0 in
    let more : Loads last a b ⊎ AnyLoads rest a b → AnyLoads (done ++ merged_from last rest) a b =
    λ h. any-right done (merged_from last rest) a b (keeps-from last rest all.it (rw all.ends r.1) a b h) in
    let two : Loads p a b ⊎ Loads q a b → AnyLoads (done ++ merged_from last rest) a b =
    λ h. elim (all.keeps a b h) [ inl k ↦ any-left done (merged_from last rest) a b k | inr k ↦ more (inl k) ] in
    elim either [
      | inl here ↦ two (inl here)
      | inr there ↦ elim there [ inl own ↦ two (inr own) | inr others ↦ more (inr others) ]
    ]

keeps-merged : (pieces : List Loaded) → Fine 0 pieces → (a b : ℕ) → AnyLoads pieces a b → AnyLoads (merged pieces) a b
keeps-merged [] fine a b h = h
keeps-merged (p ∷ rest) fine a b h = keeps-from p rest fine.0 fine.1 a b h

-- the pieces as the file has them load all bytes of the segments
pub keeps-all : (from : ℕ) (segments : List ImageSegment) (a b : ℕ) → AreRising from segments → segments_byte segments a ≡ Some b → loaded_byte_at (pieces_of segments) a ≡ Some b
keeps-all from segments a b h found =
    let cut = cut_pieces segments in
    any-byte 0 (pieces_of segments) a b (fine-of from segments h)
    (keeps-merged (map finished cut) (all-finished 0 cut (fine-cut from segments h)) a b (any-finished cut a b (keeps-cut from segments a b h found)))

-- address a lies between two addresses whose pages are the same or neighbours, and `Has` is true of both
pub record Nearby (Has : ℕ → Type 0) (a : ℕ) : Type 0 where
  pub below : ℕ
  pub above : ℕ
  pub before : below < a
  pub behind : a < above
  pub has_below : Has below
  pub has_above : Has above
  pub page : page_of above ≤ page_of below + PAGE

touch : (x y : ℕ) → 0 < y → page_of x < y + PAGE → page_of x ≤ page_of (y - 1) + PAGE
touch x y some h = omega (arith, some, h)

-- a piece loads a byte at each of its addresses
own-byte : (q : Loaded) (rest : List Loaded) (x : ℕ) → q.heading.address ≤ x → x < end_of q → AnyLoads (q ∷ rest) x (get_or q.contents (x - q.heading.address) 0)
own-byte q rest x h k = inl (record { from = h; to = k; is = refl })

-- byte b at address a comes from piece p or from the pieces after it, or is a 0 between bytes whose
-- pages are the same or neighbours
abbrev Sources : (ℕ → Type 0) → Loaded → List Loaded → ℕ → ℕ → Type 0
Sources Has p rest a b = Loads p a b ⊎ (AnyLoads rest a b ⊎ ((b ≡ 0) × Nearby Has a))

-- a byte that comes from pieces p and q has one of the sources for p and the pieces after it
source : (Has : ℕ → Type 0) (p q : Loaded) (rest : List Loaded) (a b : ℕ) → FinePiece 0 p → FinePiece (end_of p) q → Has (end_of p - 1)
    → ((x y : ℕ) → AnyLoads (q ∷ rest) x y → Has x) → Source p q a b → Sources Has p (q ∷ rest) a b
source Has p q rest a b f g last has s =
    let long = f.some in
    let some = g.some in
    let at : ℕ = q.heading.address in
    elim s [
      | inl here ↦ inl here
      | inr other ↦ elim other [
        | inl own ↦ inr (inl (inl own))
        | inr zero ↦ inr (inr (
          zero.0,
          record {
            below = end_of p - 1;
            above = at;
            before = omega (arith, zero.1, long);
            behind = zero.2;
            has_below = last;
            has_above = has at (get_or q.contents (at - at) 0) (own-byte q rest at (omega arith) (omega (arith, some)));
            page = touch at (end_of p) (omega (arith, long)) zero.3;
          },
        ))
      ]
    ]

only-from : (Has : ℕ → Type 0) (p : Loaded) (rest : List Loaded) → FinePiece 0 p → Fine (end_of p) rest → Has (end_of p - 1) → ((x y : ℕ) → AnyLoads rest x y → Has x)
    → (a b : ℕ) → AnyLoads (merged_from p rest) a b → Sources Has p rest a b
only-from Has p [] f r last has a b found = elim found [ inl here ↦ inl here | inr none ↦ absurd none ]
only-from Has p (q ∷ rest) f r last has a b found =
    let done = (merging p q).done in
    let next = (merging p q).last in
    let all = merges p q 0 f r.0 in
    let ends = all.ends in
    let some = r.0.some in
    let end : ℕ = end_of q - 1 in
    let final : Has end = has end (get_or q.contents (end - q.heading.address) 0) (own-byte q rest end (omega (arith, some)) (omega (arith, some))) in
    elim (any-split done (merged_from next rest) a b found) [
      | inl h ↦ source Has p q rest a b f r.0 last has (all.only a b (inl h))
      | inr h ↦ elim (only-from Has next rest all.it (rw ends r.1) (subst (λ (x : ℕ). Has x) (omega (arith, ends)) final) (λ x y k. has x y (inr k)) a b h) [
        | inl here ↦ source Has p q rest a b f r.0 last has (all.only a b (inr here))
        | inr more ↦ elim more [ inl others ↦ inr (inl (inr others)) | inr zero ↦ inr (inr zero) ]
      ]
    ]

-- one of the pieces loads a byte at address x
abbrev Covered : List Loaded → ℕ → Type 0
Covered pieces x = (y : ℕ) × AnyLoads pieces x y

only-merged : (pieces : List Loaded) → Fine 0 pieces → (a b : ℕ) → AnyLoads (merged pieces) a b → AnyLoads pieces a b ⊎ ((b ≡ 0) × Nearby (Covered pieces) a)
only-merged [] fine a b found = absurd found
only-merged (p ∷ rest) fine a b found =
    let some = fine.0.some in
    let end : ℕ = end_of p - 1 in
    elim (only-from (Covered (p ∷ rest)) p rest fine.0 fine.1
    (get_or p.contents (end - p.heading.address) 0, own-byte p rest end (omega (arith, some)) (omega (arith, some)))
    (λ x y k. (y, inr k)) a b found) [
      | inl here ↦ inl (inl here)
      | inr more ↦ elim more [ inl others ↦ inl (inr others) | inr zero ↦ inr zero ]
    ]

page-between : (x y z : ℕ) → x < y → y < z → page_of x ≡ page_of z → page_of y ≡ page_of x
page-between x y z h k e = omega (arith, h, k, e)

-- the segments have a byte at or below x in the same page, and one at or above x in the same page
record Anchored (segments : List ImageSegment) (x : ℕ) : Type 0 where
  low : ℕ
  low_at : low ≤ x
  low_page : page_of low ≡ page_of x
  low_has : HasAny segments low
  high : ℕ
  high_at : x ≤ high
  high_page : page_of high ≡ page_of x
  high_has : HasAny segments high

anchored : (segments : List ImageSegment) (x y : ℕ) → Found (HasAny segments) segments x y → Anchored segments x
anchored segments x y (inl same) = record {
  low = x;
  low_at = omega arith;
  low_page = refl;
  low_has = (y, same);
  high = x;
  high_at = omega arith;
  high_page = refl;
  high_has = (y, same);
}
anchored segments x y (inr zero) =
    let z = zero.1 in
    let before = z.before in
    let behind = z.behind in
    let page = page-between z.below x z.above before behind z.page in
    let same = z.page in
    record {
      low = z.below;
      low_at = omega (arith, before);
      low_page = omega (arith, page);
      low_has = z.has_below;
      high = z.above;
      high_at = omega (arith, behind);
      high_page = omega (arith, page, same);
      high_has = z.has_above;
    }

within : (segments : List ImageSegment) (a : ℕ) → Between (HasAny segments) a → IsBetween segments a
within segments a h =
    let page = h.page in
    record {
      below = h.below;
      above = h.above;
      before = h.before;
      behind = h.behind;
      has_below = h.has_below;
      has_above = h.has_above;
      page = omega (arith, page);
    }

across : (segments : List ImageSegment) (Has : ℕ → Type 0) (a : ℕ) → ((x : ℕ) → Has x → Anchored segments x) → Nearby Has a → IsBetween segments a
across segments Has a anchor h =
    let x = anchor h.below h.has_below in
    let y = anchor h.above h.has_above in
    let low_at = x.low_at in
    let low_page = x.low_page in
    let high_at = y.high_at in
    let high_page = y.high_page in
    let before = h.before in
    let behind = h.behind in
    let page = h.page in
    record {
      below = x.low;
      above = y.high;
      before = omega (arith, low_at, before);
      behind = omega (arith, high_at, behind);
      has_below = x.low_has;
      has_above = y.high_has;
      page = omega (arith, low_page, high_page, page);
    }

-- each byte that the pieces load comes from the segments, or is a 0 between bytes whose pages are the
-- same or neighbours
pub only-all : (from : ℕ) (segments : List ImageSegment) (a b : ℕ) → AreRising from segments → loaded_byte_at (pieces_of segments) a ≡ Some b
    → (segments_byte segments a ≡ Some b) ⊎ ((b ≡ 0) × IsBetween segments a)
only-all from segments a b h found =
    let cut = cut_pieces segments in
    let pieces = map finished cut in
    let of-cut : (x y : ℕ) → AnyLoads pieces x y → Found (HasAny segments) segments x y =
    λ x y k. only-cut (HasAny segments) from segments x y h (λ u v l. (v, l)) (finished-any cut x y k) in
    elim (only-merged pieces (all-finished 0 cut (fine-cut from segments h)) a b (byte-any (merged pieces) a b found)) [
      | inl one ↦ elim (of-cut a b one) [ inl same ↦ inl same | inr zero ↦ inr (zero.0, within segments a zero.1) ]
      | inr zero ↦ inr (zero.0, across segments (Covered pieces) a (λ x k. anchored segments x k.0 (of-cut x k.0 k.1)) zero.1)
    ]
