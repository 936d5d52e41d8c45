use Rattle.std.proofs.Common.{◌<◌, All, length, sym, subst}
use Rattle.registry.proofs.States.{preloads_inside}
use Rattle.registry.proofs.listed.StoreListed.preloads.Goals as goal

pub returns-clause-within : goal.returns-clause-within
returns-clause-within g c s at =
    subst (All (λ p. p < length s.libraries)) (sym c.preloads.ensures.value) (preloads_inside g.D.Disk.facts c.args.self.now s at (g.met.D.Disk.holds_now c.args.self.now.disk))
