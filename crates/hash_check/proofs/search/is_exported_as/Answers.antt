use Rattle.std.proofs.Common.{◌∙◌, ap, sym}
use Rattle.std.specs.Prelude.{◌&&◌}
use Rattle.std.specs.Str.{bytes_eq}
use Rattle.elf_dynamic.specs.Strings.{name_of}
use Rattle.hash_check.specs.Definition.{is_exported_as}
use Rattle.hash_check.proofs.search.is_exported_as.Goals as goal

pub returns-then-is_exported : goal.returns-then-is_exported
unfolding is_exported_as
returns-then-is_exported c =
    c.is_named.ensures ∙ ap (λ e. e && bytes_eq (name_of c.args.object.now c.args.i) c.args.name.now) (sym c.if-is_exported.true ∙ c.is_exported.ensures)
