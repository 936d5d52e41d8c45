use Rattle.std.proofs.Common.{rules}
use Rattle.elf_dynamic.proofs.Stages.{table_refuses, symbol_refuses}
use Rattle.elf_dynamic.proofs.object.Object.read.Goals as goal

pub returns-in_err-tables : goal.returns-in_err-tables
returns-in_err-tables c =
    let file = c.in_ok-dynamic.ensures in
    let refused = table_refuses c.args.file.now c.in_ok-dynamic.dynamic _ file.1 file.0 c.in_err-tables.ensures in
    search (rules, refused)

pub returns-in_err-test_symbols : goal.returns-in_err-test_symbols
returns-in_err-test_symbols c =
    let file = c.in_ok-dynamic.ensures in
    let found = c.in_ok-tables.ensures in
    let refused = symbol_refuses c.args.file.now c.in_ok-dynamic.dynamic c.in_ok-tables.tables _ file.1 found.1 file.0 found.0 c.in_err-test_symbols.ensures in
    search (rules, refused)
