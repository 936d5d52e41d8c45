-- The text of addresses and bytes in hexadecimal.
use Rattle.std.specs.Prelude.{ℕ, ◌+◌, ◌*◌, ◌/◌, List, ◌++◌, length, take, drop, codes}
use Rattle.std.specs.List.{flat_map, range_with_len}
use Rattle.std.specs.Int.{to_be_bytes, w64}
use Rattle.hex.specs.Hex.{encode_lower}

-- an address in 16 hexadecimal digits
abbrev pub address_text : ℕ → List ℕ
address_text address = encode_lower (to_be_bytes w64 address)

-- line number `k` of `bytes` in hexadecimal: sixteen bytes, or fewer in the last line
abbrev pub line_at : List ℕ → ℕ → List ℕ
line_at bytes k = encode_lower (take 16 (drop (16 * k) bytes)) ++ codes "\n"

-- the first `n` lines of `bytes` in hexadecimal
abbrev pub first_lines : List ℕ → ℕ → List ℕ
first_lines bytes n = flat_map (line_at bytes) (range_with_len 0 n)

-- the number of lines for the bytes
abbrev pub line_count : List ℕ → ℕ
line_count bytes = (length bytes + 15) / 16

-- all lines of `bytes` in hexadecimal, sixteen bytes to a line
abbrev pub hex_lines : List ℕ → List ℕ
hex_lines bytes = first_lines bytes (line_count bytes)
