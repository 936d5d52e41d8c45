use Rattle.std.proofs.Common.{rules, ◌≡◌, ◌<◌, ◌∙◌, length, get_or, sym, subst, arith}
use Rattle.store.specs.Holds.{IsHeldBy}
use Rattle.store.proofs.NameIndex.{entry_name}
use Rattle.store.proofs.UsedAlone.{no_entry}
use Rattle.snapshots.proofs.find.name_at.Goals as goal

pub returns-in-Some : goal.returns-in-Some
returns-in-Some g c entries are =
    let read : c.in-Some.held.now ≡ get_or c.args.handles.now c.args.position 0 = search rules in
    let inside : c.args.position < length c.args.handles.now = search rules in
    let lt : c.args.position < length entries = omega (arith, inside, are.count) in
    c.held_name.ensures (get_or entries c.args.position no_entry)
    (subst (λ h. IsHeldBy c.args.store.now.held h (get_or entries c.args.position no_entry)) (sym read) (are.each c.args.position no_entry lt))
    ∙ sym (entry_name entries c.args.position no_entry lt)
