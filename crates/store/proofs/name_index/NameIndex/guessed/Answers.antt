use Rattle.std.proofs.Common.{◌≡◌, ◌<◌, ◌∙◌, ap, sym, length, arith}
use Rattle.std.proofs.lemmas.Slice.Eq.{bytes_eq-Decides}
use Rattle.store.specs.NameOrder.{entry_names, name_at}
use Rattle.store.proofs.NameIndex.{entry_name}
use Rattle.store.proofs.name_index.NameIndex.guessed.Goals as goal

pub returns-then-eq : goal.returns-then-eq
returns-then-eq c =
    let entries = c.args.entries.now in
    let lt : c.from-then-eq.result < length entries = omega (arith, c.from-then-eq.ensures, c.from.ensures, c.if-from-entries.true) in
    let named : c.name_at.result.now ≡ c.args.name.now = (bytes_eq-Decides c.name_at.result.now c.args.name.now).0 (sym c.eq.ensures ∙ c.if-eq.true) in
    record {
      some = (lt, λ d. sym (entry_name entries c.from-then-eq.result d lt) ∙ ap (name_at (entry_names entries)) c.from-then-eq.ensures ∙ sym c.name_at.ensures ∙ named);
    }
