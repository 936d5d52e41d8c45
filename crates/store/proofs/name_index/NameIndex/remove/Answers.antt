use Rattle.std.proofs.Common.{◌≡◌, ◌∙◌, length, map, ap, subst, sym, arith}
use Rattle.std.specs.List.{remove}
use Rattle.std.proofs.lemmas.List.{length-map, with_items_is, get_or_read}
use Rattle.store.specs.NameOrder.{entry_names, IsOrderOf}
use Rattle.store.specs.inside.NameIndex.{Index, closed_up}
use Rattle.store.proofs.NameIndex.{there, IsThere, entry_name, entry_count}
use Rattle.store.proofs.NameRemovals.{removed}
use Rattle.store.proofs.name_index.NameIndex.remove.Goals as goal
use Rattle.store.proofs.name_index.NameIndex.remove.Goals.{After-place_of-place}

at : (c : After-place_of-place) → IsThere c.self.inside.positions.items c.place_of-place.result c.args.position
at c =
    let items : c.self.inside.positions.items ≡ c.args.self.now.positions = ap (λ (index : Index). index.positions) c.self.view_is in
    subst (λ l. IsThere l c.place_of-place.result c.args.position) (sym items)
    (there (entry_names c.args.entries.now) c.args.self.now.positions c.name_bytes-name.result.now c.place_of-place.result c.args.position c.requires.index c.place_of-place.ensures
    (omega (arith, c.requires.within, entry_count c.args.entries.now))
    (entry_name c.args.entries.now c.args.position _ c.requires.within ∙ sym c.name_bytes-name.ensures))

pub remove-gone-requires : goal.remove-gone-requires
remove-gone-requires c = omega (arith, (at (goal.at.remove-gone-requires c).After-place_of-place).within)

pub returns : goal.returns
returns c =
    let is_there = at (goal.at.returns c).After-place_of-place in
    let items : c.self.inside.positions.items ≡ c.args.self.now.positions = ap (λ (index : Index). index.positions) c.self.view_is in
    let gone : c.remove-gone.result ≡ c.args.position =
    get_or_read c.self.inside.positions.items c.place_of-place.result c.remove-gone.result is_there.within c.remove-gone.ensures.value 0 ∙ is_there.here in
    let closed : c.close_up.new.positions ≡ map (closed_up c.args.position) (remove c.self.inside.positions.items c.place_of-place.result) =
    c.close_up.ensures ∙ ap (λ g. map (closed_up g) c.deref_mut.result.now) gone ∙ ap (map (closed_up c.args.position)) (c.deref_mut.ensures.value ∙ c.remove-gone.ensures.items) in
    let size : length c.close_up.new.positions ≡ c.remove-gone.new.self.len =
    ap length c.close_up.ensures ∙ length-map c.deref_mut.result.now (closed_up c.remove-gone.result) ∙ c.deref_mut.ensures.len in
    subst (IsOrderOf (entry_names (remove c.args.entries.now c.args.position))) (sym (with_items_is c.remove-gone.new.self c.close_up.new.positions size ∙ closed))
    (removed c.args.entries.now c.self.inside.positions.items c.place_of-place.result c.args.position (subst (IsOrderOf (entry_names c.args.entries.now)) (sym items) c.requires.index) is_there)
