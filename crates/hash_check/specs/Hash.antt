-- The hash of a name (gABI chapter 5, "Hash Table", the function elf_hash).
use Rattle.std.specs.Prelude.{ℕ, List, ◌+◌, ◌-◌, ◌*◌, ◌/◌, ◌%◌, ◌^◌, bit_and, bit_xor, fold}

-- the hash after one more byte, in 32 bits: the hash is shifted up by four bits, the byte is added,
-- the highest four bits are folded into the bits 4 to 7, and then the highest four bits are cleared
unfoldable pub hash_step : ℕ → ℕ → ℕ
hash_step hash byte =
    let sum = (hash * 2 ^ 4 + byte) % 2 ^ 32 in
    let high = bit_and sum 0xf0000000 in
    bit_and (bit_xor sum (high / 2 ^ 24)) (0xffffffff - high)

-- the hash of the bytes of a name, starting from 0
unfoldable pub elf_hash : List ℕ → ℕ
elf_hash name = fold hash_step 0 name
