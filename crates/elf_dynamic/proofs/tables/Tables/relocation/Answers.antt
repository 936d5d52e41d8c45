use Rattle.std.proofs.Common.{◌≡◌, ℕ, List, Some, ap, sym, ◌∙◌, ◌-◌, ◌++◌, arith, length}
use Rattle.std.specs.Prelude.{slice_get}
use Rattle.elf_dynamic.specs.Relocation.{nth_relocation, relocations_in, rela_table, jmprel_table, relocations}
use Rattle.elf_dynamic.proofs.TableEntries.{count_both, in_first, in_second, length_relocations_in}
use Rattle.elf_dynamic.proofs.tables.Tables.relocation.Goals as goal

both : (file a b : List ℕ) → a ≡ rela_table file → b ≡ jmprel_table file → relocations file ≡ relocations_in a ++ relocations_in b
unfolding relocations
both file a b e f = ap (λ t. relocations_in t ++ relocations_in (jmprel_table file)) (sym e) ∙ ap (λ t. relocations_in a ++ relocations_in t) (sym f)

pub nth_relocation-requires-else-i-count : goal.nth_relocation-requires-else-i-count
nth_relocation-requires-else-i-count c =
    let a = c.rela-rela.result.now in
    let b = c.jmprel-jmprel.result.now in
    omega (arith, c.requires, ap length (both c.args.self.now a b c.rela-rela.ensures c.jmprel-jmprel.ensures), count_both a b, length_relocations_in b, c.relocation_count-count.ensures.count)

pub returns-then-i-count : goal.returns-then-i-count
returns-then-i-count c =
    let a = c.rela-rela.result.now in
    let b = c.jmprel-jmprel.result.now in
    ap (λ rs. slice_get rs c.args.i) (both c.args.self.now a b c.rela-rela.ensures c.jmprel-jmprel.ensures)
    ∙ in_first a b c.args.i (omega (arith, c.relocation_count-count.ensures.count))
    ∙ ap (λ r. Some r) (sym c.nth_relocation.ensures)

pub returns-else-i-count : goal.returns-else-i-count
returns-else-i-count c =
    let a = c.rela-rela.result.now in
    let b = c.jmprel-jmprel.result.now in
    let all = both c.args.self.now a b c.rela-rela.ensures c.jmprel-jmprel.ensures in
    ap (λ rs. slice_get rs c.args.i) all
    ∙ in_second a b c.args.i (omega (arith, c.relocation_count-count.ensures.count)) (omega (arith, c.requires, ap length all))
    ∙ ap (λ n. Some (nth_relocation b (c.args.i - n))) (sym c.relocation_count-count.ensures.count)
    ∙ ap (λ r. Some r) (sym c.nth_relocation-else-i-count.ensures)
