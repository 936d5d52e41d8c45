use Rattle.std.proofs.Common.{◌∙◌, ap, sym}
use Rattle.std.specs.Prelude.{not, ◌&&◌}
use Rattle.elf_dynamic.specs.Symbol.{is_hidden}
use Rattle.scope.proofs.resolution.is_withheld.Goals as goal

pub returns-then-not-is_defined : goal.returns-then-not-is_defined
returns-then-not-is_defined c =
    c.is_hidden.ensures ∙ ap (λ d. not d && is_hidden c.args.symbol) (sym c.if-not-is_defined.true ∙ c.is_defined.ensures)
