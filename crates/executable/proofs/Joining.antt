-- Pieces that are joined, and the parts of a piece.
use Rattle.std.proofs.Common.{◌≡◌, ℕ, ◌+◌, ◌-◌, ◌<◌, ◌≤◌, ◌⊎◌, inl, inr, ◌++◌, length, get_or, replicate, sym, ap, ◌∙◌, arith}
use Rattle.std.proofs.lemmas.Bool.Decides.{leb_tells}
use Rattle.std.proofs.lemmas.List.{length-append, length-replicate, length-take, length-drop, get_or_past, get_or-take, get_or-drop}
use Rattle.image.specs.Image.{ImageSegment}
use Rattle.image.specs.Loading.{Loaded}
use Rattle.executable.specs.Piece.{end_of, piece_of, joined, below, above, finished}
use Rattle.executable.specs.inside.Joining.{IsShort}
use Rattle.executable.proofs.Bytes.{HasByte, Loads, front-byte, back-byte}
use Rattle.executable.proofs.Zeros.{finished-heading, finished-byte, finished-length}

-- the joined piece loads the bytes of both pieces, ends where q ends, and has no more contents than
-- memory
pub record Joined (p q : Loaded) : Type 0 where
  pub short : IsShort (joined p q)
  pub ends : end_of (joined p q) ≡ end_of q
  pub front : (a b : ℕ) → Loads p a b → Loads (joined p q) a b
  pub back : (a b : ℕ) → Loads q a b → Loads (joined p q) a b
  pub only : (a b : ℕ) → Loads (joined p q) a b → Loads p a b ⊎ (Loads q a b ⊎ ((b ≡ 0) × (end_of p ≤ a) × (a < q.heading.address)))

pub joins : (p q : Loaded) → IsShort p → IsShort q → end_of p ≤ q.heading.address → Joined p q
joins p q short own above =
    let g : ℕ = q.heading.address - p.heading.address - length p.contents in
    let n : ℕ = q.heading.address - p.heading.address in
    let sum : length p.contents + g ≡ n = omega arith in
    let front-is : (i : ℕ) → i < n → get_or (joined p q).contents i 0 ≡ get_or p.contents i 0 = λ i h. front-byte p.contents q.contents g i (omega (arith, h, sum)) in
    let back-is : (i : ℕ) → n ≤ i → get_or (joined p q).contents i 0 ≡ get_or q.contents (i - n) 0 = λ i h. back-byte p.contents q.contents g n i sum h in
    let shift : (a : ℕ) → q.heading.address ≤ a → a - p.heading.address - n ≡ a - q.heading.address = λ a h. omega (arith, h) in
    record {
      short = omega (arith, length-append (p.contents ++ replicate g 0) q.contents, length-append p.contents (replicate g 0), length-replicate {A = ℕ} g 0);
      ends = omega arith;
      front = λ a b h. record {
        from = h.from;
        to = omega (arith, h.to);
        is = front-is (a - p.heading.address) (omega (arith, h.to, h.from)) ∙ h.is;
      };
      back = λ a b h. record {
        from = omega (arith, h.from);
        to = omega (arith, h.to, h.from);
        is = back-is (a - p.heading.address) (omega (arith, h.from)) ∙ ap (λ i. get_or q.contents i 0) (shift a h.from) ∙ h.is;
      };
      only = λ a b h. elim (leb_tells q.heading.address a) [
        | inl behind ↦ inr (inl (record {
          from = behind.1;
          to = omega (arith, behind.1, h.to);
          is = ap (λ i. get_or q.contents i 0) (sym (shift a behind.1)) ∙ sym (back-is (a - p.heading.address) (omega (arith, behind.1))) ∙ h.is;
        }))
        | inr before ↦ let same : get_or p.contents (a - p.heading.address) 0 ≡ b = sym (front-is (a - p.heading.address) (omega (arith, before.1, h.from))) ∙ h.is in
            elim (leb_tells (end_of p) a) [
              | inl past ↦ inr (inr (sym same ∙ get_or_past p.contents (a - p.heading.address) 0 (omega (arith, past.1)), past.1, before.1))
              | inr within ↦ inl (record { from = h.from; to = within.1; is = same })
            ]
      ];
    }

-- the parts of a piece below an address and from the address on have no more contents than memory, and
-- together load the piece's bytes
pub short-below : (at : ℕ) (p : Loaded) → IsShort (below at p)
short-below at p = let n : ℕ = at - p.heading.address in omega (arith, length-take n p.contents)

pub short-above : (at : ℕ) (p : Loaded) → IsShort p → p.heading.address ≤ at → IsShort (above at p)
short-above at p short h = let n : ℕ = at - p.heading.address in omega (arith, length-drop n p.contents)

pub into-below : (at : ℕ) (p : Loaded) (a b : ℕ) → a < at → Loads p a b → Loads (below at p) a b
into-below at p a b h l = record {
  from = l.from;
  to = omega (arith, l.from);
  is = get_or-take (at - p.heading.address) p.contents (a - p.heading.address) 0 (omega (arith, l.from)) ∙ l.is;
}

pub out-of-below : (at : ℕ) (p : Loaded) (a b : ℕ) → at ≤ end_of p → Loads (below at p) a b → Loads p a b
out-of-below at p a b h l = record {
  from = l.from;
  to = omega (arith, l.from, l.to);
  is = sym (get_or-take (at - p.heading.address) p.contents (a - p.heading.address) 0 (omega (arith, l.from, l.to))) ∙ l.is;
}

same-place : (at c a : ℕ) → c ≤ at → at ≤ a → at - c + (a - at) ≡ a - c
same-place at c a h k = omega arith

pub into-above : (at : ℕ) (p : Loaded) (a b : ℕ) → p.heading.address ≤ at → at ≤ a → Loads p a b → Loads (above at p) a b
into-above at p a b h k l = record {
  from = k;
  to = omega (arith, l.to);
  is = get_or-drop (at - p.heading.address) p.contents (a - at) 0 ∙ ap (λ i. get_or p.contents i 0) (same-place at p.heading.address a h k) ∙ l.is;
}

pub out-of-above : (at : ℕ) (p : Loaded) (a b : ℕ) → p.heading.address ≤ at → at ≤ end_of p → Loads (above at p) a b → Loads p a b
out-of-above at p a b h k l = record {
  from = omega (arith, l.from);
  to = omega (arith, l.from, l.to);
  is = sym (get_or-drop (at - p.heading.address) p.contents (a - at) 0 ∙ ap (λ i. get_or p.contents i 0) (same-place at p.heading.address a h l.from)) ∙ l.is;
}

-- a finished piece loads the same bytes as the piece, and ends at the same address
pub finished-loads : (p : Loaded) (a b : ℕ) → Loads p a b → Loads (finished p) a b
finished-loads p a b h =
    let e = finished-heading p in
    record {
      from = rw e h.from;
      to = rw e h.to;
      is = ap (λ g. get_or (finished p).contents (a - g.address) 0) e ∙ finished-byte p (a - p.heading.address) ∙ h.is;
    }

pub loads-finished : (p : Loaded) (a b : ℕ) → Loads (finished p) a b → Loads p a b
loads-finished p a b h =
    let e = finished-heading p in
    record {
      from = rw e at h.from;
      to = rw e at h.to;
      is = sym (finished-byte p (a - p.heading.address)) ∙ ap (λ g. get_or (finished p).contents (a - g.address) 0) (sym e) ∙ h.is;
    }

pub finished-end : (p : Loaded) → end_of (finished p) ≡ end_of p
finished-end p = ap (λ g. g.address + g.size) (finished-heading p)

-- two joined pieces are still right after they are finished
pub short-joined : (p q : Loaded) → IsShort p → IsShort q → end_of p ≤ q.heading.address → IsShort (finished (joined p q))
short-joined p q short own above = rw (finished-heading (joined p q)) (finished-length (joined p q) (joined p q).heading.size (joins p q short own above).short)

-- the piece of a segment loads the segment's bytes
pub piece-loads : (s : ImageSegment) (a b : ℕ) → HasByte s a b → Loads (piece_of s) a b
piece-loads s a b h = record { from = h.from; to = h.to; is = h.is }

pub loads-piece : (s : ImageSegment) (a b : ℕ) → Loads (piece_of s) a b → HasByte s a b
loads-piece s a b h = record { from = h.from; to = h.to; is = h.is }
