use Rattle.std.proofs.Common.{◌∙◌, ap, sym}
use Rattle.std.specs.Prelude.{not, ◌&&◌, ◌||◌}
use Rattle.elf_dynamic.specs.Symbol.{is_defined, has_default_visibility}
use Rattle.scope.proofs.resolution.is_own.Goals as goal

pub returns-then-is_defined : goal.returns-then-is_defined
returns-then-is_defined c =
    ap not c.has_default_visibility.ensures
    ∙ ap (λ d. d && not (has_default_visibility c.args.symbol)) (sym c.if-is_defined.true ∙ c.is_defined.ensures)
    ∙ ap (λ l. l || (is_defined c.args.symbol && not (has_default_visibility c.args.symbol))) (sym c.if-is_local.false ∙ c.is_local.ensures)
