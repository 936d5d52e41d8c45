use Rattle.std.proofs.Common.{rules, tests, ◌∙◌, ◌-◌, ◌/◌, refl, length}
use Rattle.std.proofs.lemmas.Iterator.{YieldsList-from_range}
use Rattle.std.proofs.lemmas.Iterator.Search.{any_from_yields_List}
use Rattle.elf_file.specs.Constant.{SYMBOL_SIZE}
use Rattle.elf_dynamic.specs.Symbol.{is_tls, nth_symbol, symbols_in}
use Rattle.elf_dynamic.proofs.ByNumber.{any-from_one}
use Rattle.elf_dynamic.proofs.symbol.has_tls_in.Goals as goal

pub returns : goal.returns
unfolding symbols_in
returns c =
    any_from_yields_List (λ i. is_tls (nth_symbol c.args.table.now i)) _ _ c.any.result c.any.ensures.ran
    (YieldsList-from_range 1 (length c.args.table.now / SYMBOL_SIZE) (length c.args.table.now / SYMBOL_SIZE - 1) refl refl) (λ x b q k. search (rules, tests))
    ∙ any-from_one is_tls (nth_symbol c.args.table.now) (length c.args.table.now / SYMBOL_SIZE)
