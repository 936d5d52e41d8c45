-- The streams of a program: its input, its output and standard error (own).
use Rattle.std.specs.Prelude.{ℕ, List, Option}

-- the bytes that the input still has, and the bytes of the output and of standard error before and
-- after; each is none if it isn't known
pub record Streams : Type 0 where
  pub unread : Option (List ℕ)
  pub before : Option (List ℕ)
  pub after : Option (List ℕ)
  pub errors_before : Option (List ℕ)
  pub errors_after : Option (List ℕ)
