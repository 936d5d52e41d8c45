use Rattle.std.proofs.Common.{◌∙◌, sym, ap, length}
use Rattle.elf_dynamic.specs.Strings.{string_table, string_at}
use Rattle.hash_check.proofs.NameLengths.{name-is-string}
use Rattle.hash_check.proofs.strings.stretch_of.Goals as goal

pub returns-clause-stretch : goal.returns-clause-stretch
returns-clause-stretch c =
    ap (λ o. length (string_at (string_table c.args.object.now) o)) c.offset_of-offset.ensures ∙ ap length (sym (name-is-string c.args.object.now c.args.i c.requires.symbol))
    ∙ ap length (sym c.name_of.ensures.name)
