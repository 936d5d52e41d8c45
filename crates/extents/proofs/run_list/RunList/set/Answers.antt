use Rattle.std.proofs.Common.{set, ap, ◌∙◌}
use Rattle.std.proofs.lemmas.List.{drop-set-add}
use Rattle.extents.proofs.run_list.RunList.set.Goals as goal

pub returns-clause-items : goal.returns-clause-items
returns-clause-items c =
    drop-set-add c.self.inside.vacant c.self.inside.list.items c.args.place c.args.run
    ∙ ap (λ runs. set runs.items c.args.place c.args.run) c.self.view_is
