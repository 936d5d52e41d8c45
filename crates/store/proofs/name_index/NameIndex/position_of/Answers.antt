use Rattle.std.proofs.Common.{◌≡◌, ◌<◌, ◌∙◌, ap, sym, length, get_or, arith}
use Rattle.std.proofs.lemmas.Bool.{false≢true}
use Rattle.std.proofs.lemmas.List.{get_or_read}
use Rattle.std.proofs.lemmas.Slice.Eq.{bytes_eq-Decides}
use Rattle.store.specs.NameOrder.{entry_names, name_at}
use Rattle.store.specs.inside.NameIndex.{Index}
use Rattle.store.proofs.NameIndex.{absent, entry_name, entry_count}
use Rattle.store.proofs.name_index.NameIndex.position_of.Goals as goal

pub returns-then-place-len-clause-none : goal.returns-then-place-len-clause-none
returns-then-place-len-clause-none c = λ _.
    let items : c.self.inside.positions.items ≡ c.args.self.now.positions = ap (λ (index : Index). index.positions) c.self.view_is in
    absent c.args.entries.now c.args.self.now.positions c.args.name.now c.place_of-place.result c.requires.index c.place_of-place.ensures
    (λ lt. absurd (omega (arith, lt, ap length items)))

pub returns-then-eq-clause-some : goal.returns-then-eq-clause-some
returns-then-eq-clause-some c =
    let items : c.self.inside.positions.items ≡ c.args.self.now.positions = ap (λ (index : Index). index.positions) c.self.view_is in
    let place : c.place_of-place.result < length c.self.inside.positions.items = omega (arith, ap length items) in
    let read : c.index-position.result.now ≡ get_or c.self.inside.positions.items c.place_of-place.result 0 =
    get_or_read c.self.inside.positions.items c.place_of-place.result c.index-position.result.now place c.index-position.ensures 0 in
    let is : c.from.result ≡ get_or c.args.self.now.positions c.place_of-place.result 0 = c.from.ensures ∙ read ∙ ap (λ l. get_or l c.place_of-place.result 0) items in
    let lt : c.from.result < length c.args.entries.now =
    omega (arith, is, entry_count c.args.entries.now, c.requires.index.within c.place_of-place.result 0 (omega (arith, place, ap length items))) in
    let named : c.name_at.result.now ≡ c.args.name.now = (bytes_eq-Decides c.name_at.result.now c.args.name.now).0 (sym c.eq.ensures ∙ c.if-eq.true) in
    (lt, λ d. sym (entry_name c.args.entries.now c.from.result d lt) ∙ ap (name_at (entry_names c.args.entries.now)) c.from.ensures ∙ sym c.name_at.ensures ∙ named)

pub returns-else-eq-clause-none : goal.returns-else-eq-clause-none
returns-else-eq-clause-none c = λ _.
    let items : c.self.inside.positions.items ≡ c.args.self.now.positions = ap (λ (index : Index). index.positions) c.self.view_is in
    absent c.args.entries.now c.args.self.now.positions c.args.name.now c.place_of-place.result c.requires.index c.place_of-place.ensures
    (λ lt same.
    let place : c.place_of-place.result < length c.self.inside.positions.items = omega (arith, lt, ap length items) in
    let read : c.index-position.result.now ≡ get_or c.self.inside.positions.items c.place_of-place.result 0 =
    get_or_read c.self.inside.positions.items c.place_of-place.result c.index-position.result.now place c.index-position.ensures 0 in
    let named : c.name_at.result.now ≡ c.args.name.now =
    c.name_at.ensures ∙ ap (name_at (entry_names c.args.entries.now)) (read ∙ ap (λ l. get_or l c.place_of-place.result 0) items) ∙ same in
    false≢true (sym c.if-eq.false ∙ c.eq.ensures ∙ (bytes_eq-Decides c.name_at.result.now c.args.name.now).1 named))
