-- The text of a name.
use Rattle.std.specs.Prelude.{ℕ, ◌==◌, List, [], ◌∷◌, ◌++◌, length, codes, Bool, ◌&&◌, not, nat_le, if◌then◌else◌}
use Rattle.std.specs.List.{flat_map}
use Rattle.hex.specs.Hex.{encode_lower}

-- the byte is printed unchanged: it is a visible ASCII character except the backslash
abbrev pub is_plain : ℕ → Bool
is_plain b = nat_le 0x21 b && nat_le b 0x7e && not (b == 92)

-- the text of a byte of a name: the byte itself, or `\x` and two hexadecimal digits
abbrev pub name_byte_text : ℕ → List ℕ
name_byte_text b = if is_plain b then b ∷ [] else codes "\\x" ++ encode_lower (b ∷ [])

-- the text of a name: the texts of its bytes, or `\e` for the empty name
abbrev pub name_text : List ℕ → List ℕ
name_text name = if length name == 0 then codes "\\e" else flat_map name_byte_text name
