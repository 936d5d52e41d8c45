use Rattle.std.proofs.Common.{◌+◌, ap, sym, ◌∙◌}
use Rattle.std.specs.Option.{option_map}
use Rattle.std.specs.Str.{bytes_eq}
use Rattle.scope.specs.LoadOrder.{place_of}
use Rattle.scope.proofs.Naming.{position_of}
use Rattle.scope.proofs.installed.Installed.place_of.Goals as goal

pub returns-in-Some-clause-place : goal.returns-in-Some-clause-place
returns-in-Some-clause-place c =
    ap (option_map (λ p. p + 1)) (sym c.in-Some.is ∙ c.get_index_of.ensures.index ∙ sym (position_of (λ k. k.now) (bytes_eq c.args.name.now) c.self.inside.names.keys))
    ∙ ap (λ names. place_of names c.args.name.now) c.self.view_is

pub returns-in-None-clause-place : goal.returns-in-None-clause-place
returns-in-None-clause-place c =
    ap (option_map (λ p. p + 1)) (sym c.in-None.is ∙ c.get_index_of.ensures.index ∙ sym (position_of (λ k. k.now) (bytes_eq c.args.name.now) c.self.inside.names.keys))
    ∙ ap (λ names. place_of names c.args.name.now) c.self.view_is
