use Rattle.std.proofs.Common.{Option, sym, ap, ◌∙◌}
use Rattle.std.proofs.lemmas.Result.{on_ok_weaker}
use Rattle.scope.specs.LoadOrder.{Need}
use Rattle.scope.specs.Queue.{Queue}
use Rattle.registry.specs.declared.needs.Needs.{Needs}
use Rattle.registry.proofs.NamedPlaces.{named-some, named-none}
use Rattle.store.specs.NameOrder.{entry_names}
use Rattle.registry.proofs.needs.Needs.add_named.Goals as goal

pub returns-in-Some-clause-ok : goal.returns-in-Some-clause-ok
returns-in-Some-clause-ok g c entries has own =
    let missing : Option Need = c.args.self.now.missing in
    on_ok_weaker c.add.result
    (λ h. ap (λ (q : Queue). let n : Needs = record { places = q; missing = missing } in n) h
    ∙ named-some (entry_names entries) c.args.needer.now c.args.self.now c.args.name.now c.in-Some.place (sym (c.place_of.ensures.place entries has own) ∙ c.in-Some.is))
    c.add.ensures.ok

pub returns-in-None-clause-ok : goal.returns-in-None-clause-ok
returns-in-None-clause-ok g c entries has own =
    let places : Queue = c.args.self.now.places in
    on_ok_weaker c.note.result
    (λ h. ap (λ (m : Option Need). let n : Needs = record { places = places; missing = m } in n) h
    ∙ named-none (entry_names entries) c.args.needer.now c.args.self.now c.args.name.now (sym (c.place_of.ensures.place entries has own) ∙ c.in-None.is))
    c.note.ensures.ok
