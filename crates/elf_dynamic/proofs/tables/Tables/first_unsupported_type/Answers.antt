use Rattle.std.proofs.Common.{ap, sym, ◌∙◌}
use Rattle.std.specs.Option.{option_or}
use Rattle.elf_dynamic.specs.Relocation.{relocations_in, rela_table, jmprel_table, relocations, first_unsupported_type}
use Rattle.elf_dynamic.proofs.TableEntries.{unsupported_in, unsupported_both}
use Rattle.elf_dynamic.proofs.tables.Tables.first_unsupported_type.Goals as goal

pub returns-in-Some : goal.returns-in-Some
unfolding first_unsupported_type relocations
returns-in-Some c =
    let a = rela_table c.args.self.now in
    let b = jmprel_table c.args.self.now in
    sym (unsupported_both a b ∙ ap (λ o. option_or o (unsupported_in (relocations_in b)))
    (sym (sym c.in-Some.is ∙ c.first_unsupported_in.ensures ∙ ap (λ t. unsupported_in (relocations_in t)) c.rela.ensures)))

pub returns-in-None : goal.returns-in-None
unfolding first_unsupported_type relocations
returns-in-None c =
    let a = rela_table c.args.self.now in
    let b = jmprel_table c.args.self.now in
    c.first_unsupported_in-in-None.ensures
    ∙ ap (λ t. unsupported_in (relocations_in t)) c.jmprel.ensures
    ∙ sym (unsupported_both a b ∙ ap (λ o. option_or o (unsupported_in (relocations_in b)))
    (sym (sym c.in-None.is ∙ c.first_unsupported_in.ensures ∙ ap (λ t. unsupported_in (relocations_in t)) c.rela.ensures)))
