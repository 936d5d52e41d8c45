-- Lists of numbers that a sector encodes are read back.
use Rattle.std.proofs.Common.{◌≡◌, ℕ, ◌<◌, ◌≤◌, ◌^◌, List, ◌++◌, length, refl, arith}
use Rattle.std.specs.Int.{w16, w32, to_le_bytes, from_le_bytes}
use Rattle.std.proofs.lemmas.Nat.{from_le_bytes-to_le_bytes_2, from_le_bytes-to_le_bytes_4}
use Rattle.roots.specs.Fields.{numbers, ListsSectors}
use Rattle.roots.specs.inside.Reading.{values_at}
use Rattle.roots.proofs.Pieces.{IsReadAgain, values_at-pieces, All-uses_first}

pub numbers16 : IsReadAgain (from_le_bytes w16) (to_le_bytes w16) 2 (λ n. n < 2 ^ 16)
numbers16 = record { len = λ n. refl; again = λ n rest below. from_le_bytes-to_le_bytes_2 n below }

numbers32 : IsReadAgain (from_le_bytes w32) (to_le_bytes w32) 4 (λ n. n < 2 ^ 32)
numbers32 = record { len = λ n. refl; again = λ n rest below. from_le_bytes-to_le_bytes_4 n below }

-- a list of sectors that is encoded from byte `at` on is read back
pub sectors_again : (front sectors rest : List ℕ) (places count end at : ℕ) → length front ≡ at → end ≤ 2 ^ 32 → ListsSectors places count end sectors
    → values_at (from_le_bytes w32) 4 places at (front ++ numbers w32 sectors ++ rest) ≡ sectors
sectors_again front sectors rest places count end at front_len small fits =
    let below = All-uses_first places count (λ sector. (2 ≤ sector) × (sector < end)) (λ n. n < 2 ^ 32) 0 sectors fits.listed (λ n inside. omega (arith, small, inside)) (omega arith) in
    values_at-pieces (from_le_bytes w32) (to_le_bytes w32) 4 (λ n. n < 2 ^ 32) numbers32 front sectors rest places at 0 front_len fits.listed.size below
