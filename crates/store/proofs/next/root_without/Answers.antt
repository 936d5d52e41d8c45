use Rattle.std.proofs.Common.{◌+◌, map, take, ap, ◌∙◌}
use Rattle.std.proofs.lemmas.List.{take-map}
use Rattle.roots.specs.Root.{root_over_catalogues}
use Rattle.store.specs.inside.NameIndex.{closed_up}
use Rattle.store.proofs.next.root_without.Goals as goal

pub returns : goal.returns
returns c =
    let root = c.args.root.now in
    c.over_catalogues.ensures.value
    ∙ ap (root_over_catalogues (root.generation + 1) root.sectors c.args.libraries c.args.catalogues.now)
    (ap (take c.from.result) c.close_up.ensures
    ∙ take-map (closed_up c.args.gone) c.from.result root.preloads
    ∙ ap (λ n. map (closed_up c.args.gone) (take n root.preloads)) c.from.ensures)
