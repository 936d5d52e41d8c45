use Rattle.std.proofs.Common.{◌≡◌, [], unwrap_or, ap, sym, ◌∙◌}
use Rattle.std.proofs.lemmas.Bool.{false≢true}
use Rattle.std.proofs.lemmas.Slice.Eq.{bytes_eq-Decides}
use Rattle.contents.proofs.check.finding_of.Goals as goal

pub returns-else-eq-clause-finding : goal.returns-else-eq-clause-finding
returns-else-eq-clause-finding c = (
  c.in-Ok.ensures.library.accepted,
  λ is.
      let same : c.in-Ok.soname.now ≡ c.args.name.now = ap (λ name. unwrap_or name []) (sym c.in-Ok.ensures.library.named ∙ is) in
      false≢true (sym c.if-eq.false ∙ c.eq.ensures ∙ (bytes_eq-Decides c.in-Ok.soname.now c.args.name.now).1 same),
)
