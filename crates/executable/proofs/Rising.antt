-- Rising segments.
use Rattle.std.proofs.Common.{◌≡◌, ℕ, ◌+◌, ◌<◌, ◌≤◌, inl, inr, true, false, List, [], ◌∷◌, length, Some, arith}
use Rattle.std.specs.Prelude.{◌==◌}
use Rattle.std.proofs.lemmas.Bool.Decides.{nat_tests}
use Rattle.image.specs.Constant.{MEMORY_LIMIT}
use Rattle.image.specs.Image.{AreRising, ImageSegment, segments_byte}
use Rattle.executable.proofs.Bytes.{segment-cases}

-- the first of rising segments begins at or above `from` and ends at or below the limit, and the others
-- rise from its end
pub record Rises (from : ℕ) (s : ImageSegment) (rest : List ImageSegment) : Type 0 where
  pub above : from ≤ s.address
  pub low : s.address + length s.bytes ≤ MEMORY_LIMIT
  pub others : AreRising (s.address + length s.bytes) rest

pub rises : (from : ℕ) (s : ImageSegment) (rest : List ImageSegment) → AreRising from (s ∷ rest) → Rises from s rest
rises from s rest h = record { above = h.0; low = h.1; others = h.2 }

pub rising-lower : (n from : ℕ) (segments : List ImageSegment) → n ≤ from → AreRising from segments → AreRising n segments
rising-lower n from [] l h = tt
rising-lower n from (s ∷ rest) l h = (omega (arith, l, h.0), h.1, h.2)

-- the bytes of rising segments lie at or above `from`
pub rising-above : (from : ℕ) (segments : List ImageSegment) (a b : ℕ) → AreRising from segments → segments_byte segments a ≡ Some b → from ≤ a
rising-above from [] a b h found = cc
rising-above from (s ∷ rest) a b h found =
    elim (segment-cases s rest a b found) [
      | inl here ↦ omega (arith, h.0, here.from)
      | inr there ↦ omega (arith, h.0, rising-above (s.address + length s.bytes) rest a b h.2 there)
    ]

pub empty : (s : ImageSegment) → (length s.bytes == 0) ≡ true → length s.bytes ≡ 0
empty s e = grind (arith, nat_tests)

pub filled : (s : ImageSegment) → (length s.bytes == 0) ≡ false → 0 < length s.bytes
filled s e = grind (arith, nat_tests)
