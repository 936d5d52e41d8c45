use Rattle.std.proofs.Common.{sym, subst, ◌∙◌, ap}
use Rattle.store.specs.Draft.{Drafted}
use Rattle.store.specs.Opened.{Opened}
use Rattle.registry.specs.Ran.{GivesUp, point}
use Rattle.registry.proofs.Committing.{gives_up}
use Rattle.registry.proofs.update.Update.give_up.Goals as goal

pub returns-clause-given_up : goal.returns-clause-given_up
returns-clause-given_up g c old s requests answers at run =
    let facts = g.D.Disk.facts in
    subst (λ (o : Opened g.row.D.Denot). GivesUp facts (point old s) (point o s)) (ap (λ (u : Drafted g.row.D.Denot). u.store) (sym c.self.view_is) ∙ sym c.give_up-store.ensures)
    (gives_up facts old s at (λ honest. g.met.D.Disk.holds_now _ honest) requests answers c.args.self run)
