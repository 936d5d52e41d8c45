use Rattle.std.proofs.Common.{◌≡◌, Some, None, cond, rules, ap, sym, ◌∙◌, true}
use Rattle.std.specs.Str.Parse.{digits_value}
use Rattle.commands.specs.Sectors.{is_decimal}
use Rattle.commands.proofs.Decimals.{parsed_decimal}
use Rattle.commands.proofs.sectors.number_of.Goals as goal

pub returns-then-is_decimal : goal.returns-then-is_decimal
returns-then-is_decimal c =
    let word = c.args.word.now in
    let is : is_decimal word ≡ true = search rules in
    c.ok.ensures.value
    ∙ parsed_decimal word c.from_str_radix.result is c.from_str_radix.ensures.value
    ∙ ap (λ b. cond b (Some (digits_value 10 word)) None) (sym is)
