use Rattle.std.proofs.Common.{rules, ◌≡◌, ◌<◌, ◌∙◌, length, get_or, sym, ap, subst, arith}
use Rattle.std.proofs.lemmas.Bool.{false≢true, ltb-false}
use Rattle.std.proofs.lemmas.Slice.Eq.{bytes_eq-Decides}
use Rattle.store.specs.Holds.{IsHeldBy}
use Rattle.store.specs.NameOrder.{entry_names, name_at}
use Rattle.store.proofs.NameIndex.{absent, entry_count, entry_name}
use Rattle.store.proofs.UsedAlone.{no_entry}
use Rattle.snapshots.proofs.find.find.Goals as goal

pub returns-in_err-get-clause-none : goal.returns-in_err-get-clause-none
returns-in_err-get-clause-none g c entries are order none =
    absent entries c.args.order.now c.args.name.now c.place_of-place.result order (c.place_of-place.ensures entries are order)
    (λ lt. absurd (omega (arith, lt, ltb-false c.place_of-place.result (length c.args.order.now) (sym c.in_err-get.ensures.lookup.0))))

pub returns-else-eq-clause-none : goal.returns-else-eq-clause-none
returns-else-eq-clause-none g c entries are order none =
    absent entries c.args.order.now c.args.name.now c.place_of-place.result order (c.place_of-place.ensures entries are order)
    (λ lt same.
    let position = c.from-position.result in
    let at : position ≡ get_or c.args.order.now c.place_of-place.result 0 = search rules in
    let held : c.in_ok-held.held.now ≡ get_or c.args.handles.now position 0 = search rules in
    let inside : position < length entries = omega (arith, at, entry_count entries, order.within c.place_of-place.result 0 lt) in
    let named : c.held_name.result.now ≡ c.args.name.now =
    c.held_name.ensures (get_or entries position no_entry) (subst (λ h. IsHeldBy c.args.store.now.held h (get_or entries position no_entry)) (sym held) (are.each position no_entry inside))
    ∙ sym (entry_name entries position no_entry inside) ∙ ap (name_at (entry_names entries)) at ∙ same in
    false≢true (sym c.if-eq.false ∙ c.eq.ensures ∙ (bytes_eq-Decides c.held_name.result.now c.args.name.now).1 named))
