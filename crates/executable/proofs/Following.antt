-- A piece and the next one: the bytes that the pieces made of both load, and where these lie.
use Rattle.std.proofs.Common.{◌≡◌, ℕ, ◌+◌, ◌<◌, ◌≤◌, ◌⊎◌, inl, inr, Bool, true, false, cond, List, [], ◌∷◌, ◌++◌, refl, ◌∙◌, arith, append_assoc}
use Rattle.std.specs.Prelude.{nat_le, nat_lt}
use Rattle.std.proofs.lemmas.Bool.Decides.{nat_tests, leb_tells}
use Rattle.std.proofs.lemmas.Nat.{or_lt}
use Rattle.image.specs.Constant.{PAGE}
use Rattle.image.specs.Loading.{Loaded}
use Rattle.executable.specs.Piece.{Pieces, page_of, end_of, joined, below, above, shares_page, lower, upper, in_page, sharing, followed}
use Rattle.executable.proofs.Any.{AnyLoads, any-left, any-right, any-split}
use Rattle.executable.proofs.Bytes.{Loads}
use Rattle.executable.proofs.Fine.{FinePiece, Fine, fine-behind}
use Rattle.executable.proofs.Joining.{joins, short-below, short-above, into-below, out-of-below, into-above, out-of-above}

page-page : (x : ℕ) → page_of (page_of x) ≡ page_of x
page-page x = omega arith

next-page : (x : ℕ) → page_of (page_of x + PAGE) ≡ page_of x + PAGE
next-page x = omega arith

page-low : (x : ℕ) → page_of x ≤ x
page-low x = omega arith

page-high : (x : ℕ) → x < page_of x + PAGE
page-high x = omega arith

-- pieces that begin at or above the page of `last` may follow the finished pieces
abbrev pub Opens : ℕ → List Loaded → Loaded → Type 0
Opens from done last = (more : List Loaded) → ((end : ℕ) → end ≤ page_of last.heading.address → Fine end more) → Fine from (done ++ more)

pub at-0 : {from : ℕ} (p : Loaded) → FinePiece from p → FinePiece 0 p
at-0 {from} p f = record { page = omega arith; short = f.short; some = f.some; low = f.low; permissions = f.permissions }

-- p is split at the page of an address: together, the pieces `low` and the piece `up` load the bytes of
-- p
pub record Parts (p : Loaded) (x from : ℕ) (low : List Loaded) (up : Loaded) : Type 0 where
  pub it : FinePiece 0 up
  pub ends : end_of up ≡ end_of p
  pub keeps : (a b : ℕ) → Loads p a b → AnyLoads low a b ⊎ Loads up a b
  pub only : (a b : ℕ) → AnyLoads low a b ⊎ Loads up a b → Loads p a b
  pub fine : Opens from low up

parts-by : (p : Loaded) (x from : ℕ) (t : Bool) → nat_lt p.heading.address (page_of x) ≡ t → FinePiece from p → page_of x < end_of p
    → Parts p x from (cond t (below (page_of x) p ∷ []) []) (cond t (above (page_of x) p) p)
parts-by p x from true e f h =
    let page : ℕ = page_of x in
    let before : p.heading.address < page = grind (arith, nat_tests) in
    let same : page_of page ≡ page = page-page x in
    let low = f.low in
    record {
      it = record { page = omega arith; short = short-above page p f.short (omega (arith, before)); some = omega (arith, h); low = omega (arith, h, low); permissions = f.permissions };
      ends = omega (arith, h);
      keeps = λ a b l. elim (leb_tells page a) [
        | inl k ↦ inr (into-above page p a b (omega (arith, before)) k.1 l)
        | inr k ↦ inl (inl (into-below page p a b k.1 l))
      ];
      only = λ a b l. elim l [
        | inl d ↦ elim d [ inl k ↦ out-of-below page p a b (omega (arith, h)) k | inr k ↦ absurd k ]
        | inr k ↦ out-of-above page p a b (omega (arith, before)) (omega (arith, h)) k
      ];
      fine = λ more k. (
        record { page = f.page; short = short-below page p; some = omega (arith, before); low = omega (arith, before, h, low); permissions = f.permissions },
        k (end_of (below page p)) (omega (arith, before, same)),
      );
    }
parts-by p x from false e f h = record {
  it = at-0 p f;
  ends = refl;
  keeps = λ a b l. inr l;
  only = λ a b l. elim l [ inl k ↦ absurd k | inr k ↦ k ];
  fine = λ more k. k from f.page;
}

parts : (p : Loaded) (x from : ℕ) → FinePiece from p → page_of x < end_of p → Parts p x from (lower (page_of x) p) (upper (page_of x) p)
parts p x from f h = parts-by p x from (nat_lt p.heading.address (page_of x)) refl f h

-- byte b at address a comes from piece p or from piece q, or is a 0 between them in a page that they
-- share
abbrev pub Origin : Loaded → Loaded → ℕ → ℕ → Type 0
Origin p q a b = Loads p a b ⊎ (Loads q a b ⊎ ((b ≡ 0) × (end_of p ≤ a) × (a < q.heading.address) × (page_of q.heading.address < end_of p)))

pub record Follows (p q : Loaded) (from : ℕ) (all : Pieces) : Type 0 where
  pub it : FinePiece 0 all.last
  pub ends : end_of all.last ≡ end_of q
  pub keeps : (a b : ℕ) → Loads p a b ⊎ Loads q a b → AnyLoads all.done a b ⊎ Loads all.last a b
  pub only : (a b : ℕ) → AnyLoads all.done a b ⊎ Loads all.last a b → Origin p q a b
  pub fine : Opens from all.done all.last

pub joined-fine : (u q : Loaded) → FinePiece 0 u → FinePiece 0 q → end_of u ≤ q.heading.address → FinePiece 0 (joined u q)
joined-fine u q f g h =
    let j = joins u q f.short g.short h in
    let ends = j.ends in
    let low = g.low in
    let some = g.some in
    record {
      page = omega arith;
      short = j.short;
      some = omega (arith, some);
      low = omega (arith, ends, low);
      permissions = or_lt 3 u.heading.permissions q.heading.permissions f.permissions g.permissions;
    }

-- if q begins and ends in the last page of p, `Follows` is true of the joined piece
follows-within : (p q : Loaded) (from : ℕ) → FinePiece from p → FinePiece 0 q → end_of p ≤ q.heading.address → page_of q.heading.address < end_of p
    → Follows p q from (let all : Pieces = record { done = []; last = joined p q } in all)
follows-within p q from f g h k =
    let j = joins p q f.short g.short h in
    record {
      it = joined-fine p q (at-0 p f) g h;
      ends = j.ends;
      keeps = λ a b m. elim m [ inl n ↦ inr (j.front a b n) | inr n ↦ inr (j.back a b n) ];
      only = λ a b m. elim m [
        | inl n ↦ absurd n
        | inr n ↦ elim (j.only a b n) [
          | inl o ↦ inl o
          | inr o ↦ elim o [ inl i ↦ inr (inl i) | inr z ↦ inr (inr (z.0, z.1, z.2, k)) ]
        ]
      ];
      fine = λ more m. m from f.page;
    }

-- if q begins in the last page of p and ends in a later one, `Follows` is true of the two pieces made of
-- them
follows-across : (p q : Loaded) (from : ℕ) → FinePiece from p → FinePiece 0 q → end_of p ≤ q.heading.address → page_of q.heading.address < end_of p
    → page_of q.heading.address + PAGE < end_of q
    → Follows p q from (let all : Pieces = record { done = joined p (below (page_of q.heading.address + PAGE) q) ∷ []; last = above (page_of q.heading.address + PAGE) q } in all)
follows-across p q from f g h k far =
    let x : ℕ = q.heading.address in
    let next : ℕ = page_of x + PAGE in
    let inside : x < next = page-high x in
    let aligned : page_of next ≡ next = next-page x in
    let v : Loaded = below next q in
    let low = g.low in
    let two : FinePiece 0 v = record { page = omega arith; short = short-below next q; some = omega (arith, inside); low = omega (arith, inside, far, low); permissions = g.permissions } in
    let j = joins p v f.short two.short h in
    let both : FinePiece 0 (joined p v) = joined-fine p v (at-0 p f) two h in
    let stop : end_of (joined p v) ≡ next = j.ends ∙ omega (arith, inside) in
    record {
      it = record { page = omega arith; short = short-above next q g.short (omega (arith, inside)); some = omega (arith, far); low = omega (arith, far, low); permissions = g.permissions };
      ends = omega (arith, far);
      keeps = λ a b m. elim m [
        | inl n ↦ inl (inl (j.front a b n))
        | inr n ↦ elim (leb_tells next a) [
          | inl o ↦ inr (into-above next q a b (omega (arith, inside)) o.1 n)
          | inr o ↦ inl (inl (j.back a b (into-below next q a b o.1 n)))
        ]
      ];
      only = λ a b m. elim m [
        | inl n ↦ elim n [
          | inl i ↦ elim (j.only a b i) [
            | inl y ↦ inl y
            | inr y ↦ elim y [
              | inl z ↦ inr (inl (out-of-below next q a b (omega (arith, far)) z))
              | inr z ↦ inr (inr (z.0, z.1, z.2, k))
            ]
          ]
          | inr i ↦ absurd i
        ]
        | inr n ↦ inr (inl (out-of-above next q a b (omega (arith, inside)) (omega (arith, far)) n))
      ];
      fine = λ more m. (fine-behind from (joined p v) f.page both, m (end_of (joined p v)) (omega (arith, stop, aligned)));
    }

in-page-by : (p q : Loaded) (from : ℕ) (t : Bool) → nat_le (end_of q) (page_of q.heading.address + PAGE) ≡ t
    → FinePiece from p → FinePiece 0 q → end_of p ≤ q.heading.address → page_of q.heading.address < end_of p
    → Follows p q from (cond t (let all : Pieces = record { done = []; last = joined p q } in all)
    (let all : Pieces = record { done = joined p (below (page_of q.heading.address + PAGE) q) ∷ []; last = above (page_of q.heading.address + PAGE) q } in all))
in-page-by p q from true e f g h k = follows-within p q from f g h k
in-page-by p q from false e f g h k = follows-across p q from f g h k (grind (arith, nat_tests))

follows-in-page : (p q : Loaded) (from : ℕ) → FinePiece from p → FinePiece 0 q → end_of p ≤ q.heading.address → page_of q.heading.address < end_of p
    → Follows p q from (in_page (page_of q.heading.address) p q)
follows-in-page p q from f g h k = in-page-by p q from (nat_le (end_of q) (page_of q.heading.address + PAGE)) refl f g h k

-- a byte that comes from the upper part of p or from q comes from p or q
upper-origin : (p u q : Loaded) (a b : ℕ) → end_of u ≡ end_of p → (Loads u a b → Loads p a b) → Origin u q a b → Origin p q a b
upper-origin p u q a b e up l = elim l [
  | inl k ↦ inl (up k)
  | inr k ↦ elim k [ inl m ↦ inr (inl m) | inr z ↦ inr (inr (z.0, omega (arith, e, z.1), z.2, omega (arith, e, z.3))) ]
]

follows-sharing : (p q : Loaded) (from : ℕ) → FinePiece from p → FinePiece 0 q → end_of p ≤ q.heading.address → page_of q.heading.address < end_of p
    → Follows p q from (sharing (page_of q.heading.address) p q)
follows-sharing p q from f g h k =
    let page : ℕ = page_of q.heading.address in
    let low : List Loaded = lower page p in
    let u : Loaded = upper page p in
    let l : Parts p q.heading.address from low u = parts p q.heading.address from f k in
    let ends = l.ends in
    let all : Pieces = in_page page u q in
    let behind : end_of u ≤ q.heading.address = omega (arith, ends, h) in
    let within : page < end_of u = omega (arith, ends, k) in
    let r : Follows u q 0 all = follows-in-page u q 0 l.it g behind within in
    record {
      it = r.it;
      ends = r.ends;
      keeps = λ a b m.
          let more : Loads u a b ⊎ Loads q a b → AnyLoads (low ++ all.done) a b ⊎ Loads all.last a b =
          λ n. elim (r.keeps a b n) [ inl o ↦ inl (any-right low all.done a b o) | inr o ↦ inr o ] in
          elim m [
            | inl n ↦ elim (l.keeps a b n) [ inl o ↦ inl (any-left low all.done a b o) | inr o ↦ more (inl o) ]
            | inr n ↦ more (inr n)
          ];
      only = λ a b m.
          let more : AnyLoads all.done a b ⊎ Loads all.last a b → Origin p q a b = λ n. upper-origin p u q a b ends (λ o. l.only a b (inr o)) (r.only a b n) in
          elim m [
            | inl n ↦ elim (any-split low all.done a b n) [ inl o ↦ inl (l.only a b (inl o)) | inr o ↦ more (inl o) ]
            | inr n ↦ more (inr n)
          ];
      fine = λ more m. rw (append_assoc low all.done more)
          (l.fine (all.done ++ more) (λ end over. (follows-in-page u q end (fine-behind end u over l.it) g behind within).fine more m));
    }

followed-by : (p q : Loaded) (from : ℕ) (t : Bool) → shares_page p q ≡ t → FinePiece from p → FinePiece 0 q → end_of p ≤ q.heading.address
    → Follows p q from (cond t (sharing (page_of q.heading.address) p q) (let all : Pieces = record { done = p ∷ []; last = q } in all))
followed-by p q from true e f g h =
    follows-sharing p q from f g h (grind (arith, nat_tests))
followed-by p q from false e f g h =
    let apart : end_of p ≤ page_of q.heading.address = grind (arith, nat_tests) in
    record {
      it = g;
      ends = refl;
      keeps = λ a b m. elim m [ inl n ↦ inl (inl n) | inr n ↦ inr n ];
      only = λ a b m. elim m [ inl n ↦ elim n [ inl o ↦ inl o | inr o ↦ absurd o ] | inr n ↦ inr (inl n) ];
      fine = λ more k. (f, k (end_of p) apart);
    }

-- `Follows` is true of the pieces made of a piece and of the next one
pub follows : (p q : Loaded) (from : ℕ) → FinePiece from p → FinePiece 0 q → end_of p ≤ q.heading.address → Follows p q from (followed p q)
follows p q from f g h = followed-by p q from (shares_page p q) refl f g h
