-- The argument SECTORS of a command line.
use Rattle.std.specs.Prelude.{ℕ, List, length, nat_le, Bool, ◌&&◌, Option, Some, None, if◌then◌else◌}
use Rattle.std.specs.List.{list_all}
use Rattle.std.specs.Str.Parse.{digits_value}
use Rattle.std.specs.Char.{is_ascii_digit}
use Rattle.states.specs.Geometry.{is_geometry}

-- the word is 1 to 7 decimal digits
abbrev pub is_decimal : List ℕ → Bool
is_decimal word = nat_le 1 (length word) && nat_le (length word) 7 && list_all is_ascii_digit word

-- the number of sectors that a word encodes, or none unless the word is 1 to 7 decimal digits with
-- a value from 8 to 4,194,304
abbrev pub sectors_of : List ℕ → Option ℕ
sectors_of word = if is_decimal word && is_geometry (digits_value 10 word) then Some (digits_value 10 word) else None
