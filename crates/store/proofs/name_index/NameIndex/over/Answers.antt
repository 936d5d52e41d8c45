use Rattle.std.proofs.Common.{subst, sym, ◌∙◌}
use Rattle.std.proofs.lemmas.Bool.{false≢true}
use Rattle.store.specs.NameOrder.{entry_names}
use Rattle.store.specs.inside.NameIndex.{Rises}
use Rattle.store.proofs.NameOrder.{order_from_rises, rises_from_own}
use Rattle.store.proofs.NameIndex.{own_from_order, names_from_own}
use Rattle.store.proofs.name_index.NameIndex.over.Goals as goal

pub returns-in_ok-guesses-clause-own : goal.returns-in_ok-guesses-clause-own
returns-in_ok-guesses-clause-own c =
    let rises = subst (Rises (entry_names c.args.entries.now)) c.deref.ensures.value (c.is_sorted.ensures.0 c.if-is_sorted.true) in
    let index = order_from_rises (entry_names c.args.entries.now) c.in_ok-positions.positions.items c.in_ok-positions.ensures rises in
    (index, own_from_order c.args.entries.now c.in_ok-positions.positions.items index)

pub returns-else-is_sorted-clause-twice : goal.returns-else-is_sorted-clause-twice
returns-else-is_sorted-clause-twice c = λ none own.
    let rises = rises_from_own (entry_names c.args.entries.now) c.in_ok-positions.positions.items c.in_ok-positions.ensures (names_from_own c.args.entries.now own) in
    let found = c.is_sorted.ensures.1 (subst (Rises (entry_names c.args.entries.now)) (sym c.deref.ensures.value) rises) in
    false≢true (sym c.if-is_sorted.false ∙ found)
