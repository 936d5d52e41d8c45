use Rattle.std.proofs.Common.{◌∙◌, sym}
use Rattle.roots.proofs.Choices.{current_from_chosen, chosen_from_current, not_formatted, lack_from_refused}
use Rattle.roots.proofs.choice.choose.Goals as goal

pub returns-clause-ok : goal.returns-clause-ok
returns-clause-ok c sector0 sector1 is0 is1 root = (
  λ e. current_from_chosen sector0 sector1 c.args.slot0 c.args.slot1 is0 is1 root (sym c.by_table.ensures ∙ e),
  λ current. c.by_table.ensures ∙ chosen_from_current sector0 sector1 c.args.slot0 c.args.slot1 is0 is1 root current,
)

pub returns-clause-refused : goal.returns-clause-refused
returns-clause-refused c sector0 sector1 is0 is1 = (
  λ e. lack_from_refused sector0 sector1 c.args.slot0 c.args.slot1 is0 is1 (sym c.by_table.ensures ∙ e),
  λ lack. c.by_table.ensures ∙ not_formatted sector0 sector1 c.args.slot0 c.args.slot1 is0 is1 lack.0 lack.1,
)
