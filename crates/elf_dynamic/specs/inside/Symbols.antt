-- The four tests of a symbol as one test.
use Rattle.std.specs.Prelude.{Bool, ◌||◌}
use Rattle.elf_dynamic.specs.Symbol.{is_common, is_tls, is_ifunc, is_badly_bound}
use Rattle.elf_dynamic.specs.declared.symbol.Symbol.{Symbol}

-- one of the tests E24 to E27 refuses the symbol
unfoldable pub is_refused : Symbol → Bool
is_refused s = is_common s || (is_tls s || (is_ifunc s || is_badly_bound s))
