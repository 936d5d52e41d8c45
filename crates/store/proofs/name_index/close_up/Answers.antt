use Rattle.std.proofs.Common.{◌<◌, ◌∙◌, ℕ, List, length, get_or, set, ap, arith}
use Rattle.std.proofs.lemmas.List.{get_or_default}
use Rattle.std.proofs.lemmas.List.Edits.{map_over_more}
use Rattle.store.specs.inside.NameIndex.{closed_up}
use Rattle.store.proofs.name_index.close_up.Goals as goal

pub loop-position-preserved : goal.loop-position-preserved
loop-position-preserved c =
    let i : ℕ = c.loop-position.position-index in
    let now : List ℕ = c.loop-position.positions in
    let lt : c.loop-position.position-index < length c.loop-position.positions = omega arith in
    ap (set c.loop-position.positions c.loop-position.position-index) c.closed_up.ensures
    ∙ map_over_more (closed_up c.args.gone) c.args.positions.now c.loop-position.positions c.loop-position.position-index (get_or now i 0) c.loop-position-test.true c.loop-position.invariant
    (get_or_default now i 0 (get_or now i 0) lt)
