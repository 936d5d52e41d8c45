-- The fields of a segment of memory except its bytes.
use Rattle.std.specs.Prelude.{ℕ, ◌+◌, Bool, ◌&&◌, nat_le, nat_lt}

-- `address` is one of the `n` addresses that begin at `from`
abbrev pub within : ℕ → ℕ → ℕ → Bool
within from n address = nat_le from address && nat_lt address (from + n)

-- a segment's first address, its permissions, and its number of bytes
pub record Heading : Type 0 where
  pub address : ℕ
  pub permissions : ℕ
  pub size : ℕ

-- the segment has the address
abbrev pub holds : ℕ → Heading → Bool
holds address h = within h.address h.size address
