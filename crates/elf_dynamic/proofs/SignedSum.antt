-- Adding an addend modulo 2^64 has the same result as adding it as a signed number.
use Rattle.std.proofs.Common.{◌≡◌, ℕ, ◌+◌, ◌%◌, ◌^◌, Bool, true, false, cond, pos, ◌+ℤ◌, ◌-ℤ◌, arith, refl, nat_lt}
use Rattle.std.specs.Int.{int_rem_euclid}
use Rattle.std.proofs.lemmas.Int.{ints, int_rem_euclid_is}
use Rattle.elf_dynamic.specs.Relocation.{signed_addend}
use Rattle.elf_dynamic.specs.declared.relocation.Relocation.{Relocation}

signed-step : (v a : ℕ) (b : Bool) → int_rem_euclid (pos v +ℤ cond b (pos a) (pos a -ℤ pos (2 ^ 64))) (pos (2 ^ 64)) ≡ pos ((v + a) % 2 ^ 64)
signed-step v a true = int_rem_euclid_is (pos v +ℤ pos a) (pos (2 ^ 64)) (2 ^ 64) 0 (v + a) (omega arith) refl (omega (arith, ints))
signed-step v a false = int_rem_euclid_is (pos v +ℤ (pos a -ℤ pos (2 ^ 64))) (pos (2 ^ 64)) (2 ^ 64) 1 (v + a) (omega arith) refl (omega (arith, ints))

-- the sum of a value and an addend, modulo 2^64, is the same whether the addend is taken as signed or not
pub signed_sum : (v : ℕ) (r : Relocation) → int_rem_euclid (pos v +ℤ signed_addend r) (pos (2 ^ 64)) ≡ pos ((v + r.addend) % 2 ^ 64)
signed_sum v r = signed-step v r.addend (nat_lt r.addend (2 ^ 63))
