-- The home of a key lies in the table.
use Rattle.std.proofs.Common.{ℕ, ◌<◌, ◌≤◌, ◌-◌, ◌*◌, ◌/◌, ◌^◌, arith}
use Rattle.std.proofs.lemmas.Nat.{mul-le, div_below}

-- a key's 32 bits, scaled to `cells` cells, are the number of a cell, and the product is below 2^64
pub near : (spread cells : ℕ) → spread < 2 ^ 32 → 0 < cells → cells ≤ 2 ^ 32 → (spread * cells < 2 ^ 64) × (spread * cells / 2 ^ 32 < cells)
near spread cells low some few =
    let most : spread * cells ≤ (2 ^ 32 - 1) * cells = mul-le spread cells (2 ^ 32 - 1) cells (omega arith) (omega arith) in
    (omega arith, div_below (spread * cells) (2 ^ 32) cells (omega arith) (omega arith))
