use Rattle.std.proofs.Common.{◌++◌, sym, ap, subst, ◌∙◌, All, arith}
use Rattle.std.specs.List.{flat_map}
use Rattle.std.proofs.lemmas.List.Sorted.{All-permutation}
use Rattle.extents.specs.Extent.{places}
use Rattle.store.specs.Stands.{sectors_of}
use Rattle.store.specs.inside.Claimed.{IsFilled}
use Rattle.store.proofs.used.used_extents.Goals as goal

pub returns-clause-sectors : goal.returns-clause-sectors
returns-clause-sectors c =
    let entries = flat_map sectors_of c.args.entries.now in
    let all =
    c.in_ok-push_extents.ensures.places
    ∙ ap (λ l. l ++ entries) (c.in_ok-push_singles.ensures.places ∙ (λ i. places (c.new-extents.ensures.items i) ++ c.catalogues.ensures i)) in
    (c.push_extents.new.extents.items, all, c.sort_unstable_by_key.ensures.permutation)

pub returns-clause-filled : goal.returns-clause-filled
returns-clause-filled c =
    let none = subst (All IsFilled) (sym c.new-extents.ensures.items) (λ k d lt. absurd (omega (arith, lt))) in
    All-permutation IsFilled c.push_extents.new.extents.items c.sort_unstable_by_key.new.self.items c.sort_unstable_by_key.ensures.permutation
    (c.in_ok-push_extents.ensures.filled (c.in_ok-push_singles.ensures.filled none))
