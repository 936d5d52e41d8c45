use Rattle.std.proofs.Common.{List, ℕ, ◌∙◌, ap, sym}
use Rattle.hash_check.specs.Export.{is_exported}
use Rattle.scope.proofs.Kept.{file-is}
use Rattle.scope.proofs.definitions.is_exported.Goals as goal

pub returns : goal.returns
returns c =
    c.is_exported.ensures
    ∙ ap (λ (file : List ℕ). is_exported file c.args.symbol.symbol)
    (c.object.ensures ∙ sym (file-is c.args.objects.now c.args.symbol.object c.index-objects-symbol.result c.requires.there c.index-objects-symbol.is))
