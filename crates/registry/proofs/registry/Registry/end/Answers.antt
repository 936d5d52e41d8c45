use Rattle.std.proofs.Common.{subst}
use Rattle.snapshots.specs.Snapshot.{LetsAllGo}
use Rattle.registry.specs.Flying.{Ends}
use Rattle.registry.specs.inside.Binding.{Binding}
use Rattle.registry.proofs.Flights.{is_ended}
use Rattle.registry.proofs.registry.Registry.end.Goals as goal

pub returns : goal.returns
returns g c =
    let binder : Binding = c.args.binder in
    subst (λ k. Ends g.D.Disk.facts k c.let_go.new.store binder) c.self.view_is
    (is_ended g.D.Disk.facts c.self.inside.store c.let_go.new.store binder.program binder.base binder
    (subst (λ (b : Binding). LetsAllGo g.D.Disk.facts c.self.inside.store c.let_go.new.store b.snapshot.handles) c.binder.view_is c.let_go.ensures))
