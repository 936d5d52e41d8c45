use Rattle.std.proofs.Common.{subst}
use Rattle.std.specs.Prelude.{IfSome}
use Rattle.roots.specs.Catalogue.{SpellsCatalogue}
use Rattle.store.proofs.listed.read_catalogue.Goals as goal

pub returns-clause-catalogue : goal.returns-clause-catalogue
returns-clause-catalogue g c = (
  c.read.new.into,
  λ catalogue. (
    λ is. subst (λ found. IfSome found (SpellsCatalogue c.read.new.into)) is c.decode_catalogue.ensures.read,
    λ spells. c.decode_catalogue.ensures.spelt catalogue spells,
  ),
  λ honest. let read = c.in_ok-read.ensures.honest honest in record { past = read.past; same = read.same; ok = read.ok },
)
