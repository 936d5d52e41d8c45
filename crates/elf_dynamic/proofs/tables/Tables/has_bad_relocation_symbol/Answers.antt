use Rattle.std.proofs.Common.{ap, sym, ◌∙◌, ◌≡◌, List, ℕ, Bool, true, false}
use Rattle.std.specs.Prelude.{◌&&◌, nat_le}
use Rattle.std.specs.List.{list_any}
use Rattle.elf_dynamic.specs.HashTable.{chain_count}
use Rattle.elf_dynamic.specs.Relocation.{uses_symbol, relocations_in, rela_table, jmprel_table, relocations, lacks_symbol, has_bad_relocation_symbol}
use Rattle.elf_dynamic.specs.declared.relocation.Relocation.{Relocation}
use Rattle.elf_dynamic.proofs.TableEntries.{any_both}
use Rattle.elf_dynamic.proofs.tables.Tables.has_bad_relocation_symbol.Goals as goal

in-part : (file part table : List ℕ) (count : ℕ) (r : Bool) → r ≡ list_any (λ (x : Relocation). uses_symbol x.kind && nat_le count x.symbol) (relocations_in part)
    → count ≡ chain_count file → part ≡ table → list_any (lacks_symbol file) (relocations_in table) ≡ r
in-part file part table count r is e f =
    sym (is ∙ ap (λ n. list_any (λ (x : Relocation). uses_symbol x.kind && nat_le n x.symbol) (relocations_in part)) e ∙ ap (λ t. list_any (lacks_symbol file) (relocations_in t)) f)

pub returns-then-has_bad_relocation_symbol_in : goal.returns-then-has_bad_relocation_symbol_in
unfolding has_bad_relocation_symbol relocations
returns-then-has_bad_relocation_symbol_in c =
    let file = c.args.self.now in
    let first = in-part file c.rela.result.now (rela_table file) c.symbol_count-count.result
    c.has_bad_relocation_symbol_in.result c.has_bad_relocation_symbol_in.ensures c.symbol_count-count.ensures.chains c.rela.ensures in
    c.if-has_bad_relocation_symbol_in.true ∙ sym (any_both (lacks_symbol file) (rela_table file) (jmprel_table file) true (first ∙ c.if-has_bad_relocation_symbol_in.true))

pub returns-else-has_bad_relocation_symbol_in : goal.returns-else-has_bad_relocation_symbol_in
unfolding has_bad_relocation_symbol relocations
returns-else-has_bad_relocation_symbol_in c =
    let file = c.args.self.now in
    let first = in-part file c.rela.result.now (rela_table file) c.symbol_count-count.result
    c.has_bad_relocation_symbol_in.result c.has_bad_relocation_symbol_in.ensures c.symbol_count-count.ensures.chains c.rela.ensures in
    let second = in-part file c.jmprel.result.now (jmprel_table file) c.symbol_count-count.result
    c.has_bad_relocation_symbol_in-else-has_bad_relocation_symbol_in.result c.has_bad_relocation_symbol_in-else-has_bad_relocation_symbol_in.ensures
    c.symbol_count-count.ensures.chains c.jmprel.ensures in
    sym (any_both (lacks_symbol file) (rela_table file) (jmprel_table file) false (first ∙ c.if-has_bad_relocation_symbol_in.false) ∙ second)
