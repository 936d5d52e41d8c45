use Rattle.std.proofs.Common.{◌∙◌, sym}
use Rattle.roots.proofs.Choices.{odd_is_newer, even_is_newer}
use Rattle.roots.proofs.choice.later.Goals as goal

pub returns-then-even-odd : goal.returns-then-even-odd
returns-then-even-odd c =
    odd_is_newer c.args.even c.args.odd c.after.result (sym c.slot_of.ensures.value ∙ c.if-slot_of-ne0.false) (sym c.slot_of-else-slot_of-ne0.ensures.value ∙ c.if-slot_of-ne1.false)
    (sym c.abs_diff.ensures ∙ c.if-abs_diff-ne1.false) c.if-even-odd.true c.after.ensures

pub returns-else-even-odd : goal.returns-else-even-odd
returns-else-even-odd c =
    even_is_newer c.args.even c.args.odd c.after-else-even-odd.result (sym c.slot_of.ensures.value ∙ c.if-slot_of-ne0.false) (sym c.slot_of-else-slot_of-ne0.ensures.value ∙ c.if-slot_of-ne1.false)
    (sym c.abs_diff.ensures ∙ c.if-abs_diff-ne1.false) c.if-even-odd.false c.after-else-even-odd.ensures
