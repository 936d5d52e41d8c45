use Rattle.std.proofs.Common.{◌≡◌, ◌-◌, length, refl, ap}
use Rattle.std.proofs.lemmas.Iterator.{items_from_collect, YieldsList-from_range}
use Rattle.elf_dynamic.specs.Symbol.{symbols}
use Rattle.hash_check.specs.inside.Names.{all_symbols}
use Rattle.hash_check.proofs.numbered.all_symbols.Goals as goal

pub returns : goal.returns
unfolding all_symbols
returns c =
    let n : c.symbol_count.result - 1 ≡ length (symbols c.args.object.now) - 1 = ap (λ k. k - 1) c.symbol_count.ensures.count in
    items_from_collect c.collect.result c.collect.ensures.ran (YieldsList-from_range 1 c.symbol_count.result (length (symbols c.args.object.now) - 1) refl n)
