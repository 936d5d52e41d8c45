use Rattle.std.proofs.Common.{not, sym, ap, ◌∙◌}
use Rattle.std.specs.Prelude.{is_none}
use Rattle.std.specs.Str.{bytes_eq}
use Rattle.scope.specs.LoadOrder.{names_of, place_of}
use Rattle.scope.proofs.Naming.{list_any_of}
use Rattle.bindings.specs.Dependencies.{Found}
use Rattle.bindings.proofs.Naming.{has-place}
use Rattle.bindings.proofs.dependencies.Dependencies.has.Goals as goal

pub returns : goal.returns
returns c =
    let name = c.args.name.now in
    c.contains.ensures
    ∙ sym (list_any_of (λ k. k.now) (bytes_eq name) c.self.inside.names.keys)
    ∙ c.self.invariant name
    ∙ sym (has-place (names_of c.self.inside.libraries.now) name)
    ∙ ap (λ (f : Found). not (is_none (place_of (names_of f.libraries) name))) c.self.view_is
