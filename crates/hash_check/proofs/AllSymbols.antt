-- All symbols except number 0.
use Rattle.std.proofs.Common.{◌≡◌, ℕ, ◌<◌, ◌+◌, ◌-◌, List, length, arith, get_or}
use Rattle.std.specs.List.{All, range_with_len}
use Rattle.std.proofs.lemmas.List.FromFn.{length-range_with_len, get_or-range_with_len}
use Rattle.elf_dynamic.specs.Symbol.{symbols}
use Rattle.hash_check.specs.inside.Names.{all_symbols}
use Rattle.hash_check.specs.inside.Names.{IsSymbol}

pub all-symbols : (file : List ℕ) → All (IsSymbol file) (all_symbols file)
unfolding all_symbols
all-symbols file = λ k d lt.
    let within : k < length (symbols file) - 1 = omega (arith, lt, length-range_with_len 1 (length (symbols file) - 1)) in
    let at : get_or (range_with_len 1 (length (symbols file) - 1)) k d ≡ 1 + k = get_or-range_with_len 1 (length (symbols file) - 1) k d within in
    record { some = omega (arith, at); within = omega (arith, at, within) }
