-- Decimal digits are a numeral.
use Rattle.std.proofs.Common.{◌≡◌, ℕ, ◌<◌, ◌≤◌, true, false, List, length, arith, nat_eq, nat_le}
use Rattle.std.specs.Prelude.{◌&&◌, Result, Some}
use Rattle.std.specs.Result.{result_ok}
use Rattle.std.specs.List.{list_all}
use Rattle.std.specs.Char.{is_ascii_digit, digit_value}
use Rattle.std.specs.Str.Parse.{digits_value, ParsesUnsigned}
use Rattle.std.proofs.lemmas.Bool.Decides.{nat_tests}
use Rattle.program_parts.proofs.Digits.{and_left, and_right, read_digits}
use Rattle.commands.specs.Sectors.{is_decimal}

decimal : (c : ℕ) → is_ascii_digit c ≡ true → digit_value c < 10
decimal c h = grind (arith, nat_tests)

decimal_sign : (c : ℕ) → is_ascii_digit c ≡ true → nat_eq c 43 ≡ false
decimal_sign c h = grind (arith, nat_tests)

-- if 1 to 7 decimal digits are parsed, the result is their number
pub parsed_decimal : {E : Type 0} (cs : List ℕ) (r : Result ℕ E) → is_decimal cs ≡ true → ParsesUnsigned 32 10 cs r
    → result_ok r ≡ Some (digits_value 10 cs)
parsed_decimal cs r h p =
    let front = and_left (nat_le 1 (length cs) && nat_le (length cs) 7) (list_all is_ascii_digit cs) h in
    let low = and_left (nat_le 1 (length cs)) (nat_le (length cs) 7) front in
    let high = and_right (nat_le 1 (length cs)) (nat_le (length cs) 7) front in
    let some : 0 < length cs = grind (arith, nat_tests, low) in
    let short : length cs ≤ 7 = grind (arith, nat_tests, high) in
    read_digits is_ascii_digit 10 decimal decimal_sign 32 7 cs r (omega arith) (omega arith) (and_right (nat_le 1 (length cs) && nat_le (length cs) 7) (list_all is_ascii_digit cs) h) some short p
