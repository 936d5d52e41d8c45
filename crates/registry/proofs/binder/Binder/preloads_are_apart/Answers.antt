use Rattle.std.proofs.Common.{◌<◌, List, ℕ, length, nat_eq, subst}
use Rattle.std.specs.Prelude.{All}
use Rattle.std.specs.List.{IsDistinct}
use Rattle.registry.specs.inside.Binding.{Binding}
use Rattle.registry.proofs.binder.Binder.preloads_are_apart.Goals as goal

pub returns-clause-inside : goal.returns-clause-inside
returns-clause-inside c =
    subst (λ (b : Binding). All (λ p. p < length b.snapshot.handles) b.snapshot.preloads) c.self.view_is
    (subst (λ (ps : List ℕ). All (λ p. p < length c.self.inside.snapshot.handles) ps) c.preloads.ensures.value c.preloads.ensures.inside)

pub returns-clause-once : goal.returns-clause-once
returns-clause-once c =
    subst (λ (b : Binding). IsDistinct nat_eq b.snapshot.preloads) c.self.view_is
    (subst (λ (ps : List ℕ). IsDistinct nat_eq ps) c.preloads.ensures.value c.preloads.ensures.once)
