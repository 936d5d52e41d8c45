-- The words of a line of a script (own).
use Rattle.std.specs.Prelude.{ℕ, ◌+◌, ◌==◌, Bool, ◌&&◌, not, nat_le, if◌then◌else◌}
use Rattle.std.specs.Prelude.{List, [], ◌∷◌, length, take, take_while, drop, bytes_eq, Option, Some, None}
use Rattle.std.specs.List.{list_all, slice_split}
use Rattle.std.specs.Result.{result_ok}
use Rattle.hex.specs.Hex.{decode_of}
use Rattle.program_parts.specs.Base.{base_of}

-- the bytes that HEX encodes; HEX is one or more pairs of hexadecimal digits of either case
abbrev pub hex_bytes : List ℕ → Option (List ℕ)
hex_bytes word = if length word == 0 then None else result_ok (decode_of word)

-- a NAME may have this byte
abbrev pub is_visible : ℕ → Bool
is_visible b = nat_le 0x21 b && nat_le b 0x7e

-- the word is a NAME: one or more visible bytes
abbrev pub is_name : List ℕ → Bool
is_name word = not (length word == 0) && list_all is_visible word

-- the word if it is a NAME, and otherwise none
abbrev pub named : List ℕ → Option (List ℕ)
named word = if is_name word then Some word else None

-- the NAMEs in the bytes, each after a space; none if the bytes have another form
abbrev pub names_behind : List ℕ → Option (List (List ℕ))
names_behind [] = Some []
names_behind (b ∷ rest) =
    let words = slice_split (λ b. b == 32) rest in
    if (b == 32) && list_all is_name words then Some words else None

-- the bytes before the first space, or all bytes if there is no space
abbrev pub word_in_front : List ℕ → List ℕ
word_in_front bytes = take_while (λ b. not (b == 32)) bytes

-- the bytes of a program with its base, if both could be read; otherwise none
abbrev pub placed_at : Option ℕ → Option (List ℕ) → Option (List ℕ × ℕ)
placed_at (Some base) (Some program) = Some (program, base)
placed_at base program = None

-- the bytes of a program and its base, from BASE and HEX with a space between them
abbrev pub program_behind : List ℕ → Option (List ℕ × ℕ)
program_behind rest =
    let word = word_in_front rest in
    placed_at (base_of word) (hex_bytes (drop (length word + 1) rest))

-- the line begins with `front`
abbrev pub has_front : List ℕ → List ℕ → Bool
has_front front line = bytes_eq (take (length front) line) front
