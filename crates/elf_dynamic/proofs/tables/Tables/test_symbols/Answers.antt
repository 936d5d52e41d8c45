use Rattle.std.proofs.Common.{rules}
use Rattle.elf_dynamic.specs.Refusal.{symbol_refusal}
use Rattle.elf_dynamic.specs.Symbol.{symbols, has_common_symbol, has_tls_symbol, has_ifunc_symbol, has_bad_binding}
use Rattle.elf_dynamic.proofs.tables.Tables.test_symbols.Goals as goal

pub returns-then-has_common_in : goal.returns-then-has_common_in
unfolding symbol_refusal symbols has_common_symbol has_tls_symbol has_ifunc_symbol has_bad_binding
returns-then-has_common_in c = search rules

pub returns-then-has_tls_in : goal.returns-then-has_tls_in
unfolding symbol_refusal symbols has_common_symbol has_tls_symbol has_ifunc_symbol has_bad_binding
returns-then-has_tls_in c = search rules

pub returns-then-has_ifunc_in : goal.returns-then-has_ifunc_in
unfolding symbol_refusal symbols has_common_symbol has_tls_symbol has_ifunc_symbol has_bad_binding
returns-then-has_ifunc_in c = search rules

pub returns-then-has_badly_bound_in : goal.returns-then-has_badly_bound_in
unfolding symbol_refusal symbols has_common_symbol has_tls_symbol has_ifunc_symbol has_bad_binding
returns-then-has_badly_bound_in c = search rules

pub returns : goal.returns
unfolding symbol_refusal symbols has_common_symbol has_tls_symbol has_ifunc_symbol has_bad_binding
returns c = search rules
