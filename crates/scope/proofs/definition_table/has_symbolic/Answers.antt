use Rattle.std.proofs.Common.{◌∙◌, List, ap, sym, below_more}
use Rattle.elf_file.specs.Dynamic.{is_symbolic}
use Rattle.scope.specs.Objects.{Named}
use Rattle.scope.proofs.Kept.{file-is}
use Rattle.scope.proofs.definition_table.has_symbolic.Goals as goal

pub loop-object-preserved : goal.loop-object-preserved
loop-object-preserved c =
    let objects : List Named = c.args.objects.now in
    below_more _ _ c.loop-object.invariant
    (ap is_symbolic (file-is objects c.loop-object.object-index c.object-item.result c.loop-object-test.true c.object-item.is) ∙ sym c.is_symbolic.ensures ∙ c.if-is_symbolic.false)
