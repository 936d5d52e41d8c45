use Rattle.std.proofs.Common.{◌∙◌, Some, ap}
use Rattle.scope.specs.declared.target.Target.{Target}
use Rattle.std.specs.Option.{option_map}
use Rattle.image.specs.Relocating.{symbol_value, target_value}
use Rattle.image.proofs.Targets.{placed-there}
use Rattle.image.proofs.placed.PlacedOrder.symbol_value.Goals as goal

pub own_address-requires-clause-object : goal.own_address-requires-clause-object
own_address-requires-clause-object c =
    (placed-there c.args.self.now c.args.own c.args.symbol c.in-At.object c.in-At.symbol c.requires.own (c.in_ok-target.ensures ∙ ap (λ (t : Target). Some t) c.in-At.is)).0

pub own_address-requires-clause-symbol : goal.own_address-requires-clause-symbol
own_address-requires-clause-symbol c =
    (placed-there c.args.self.now c.args.own c.args.symbol c.in-At.object c.in-At.symbol c.requires.own (c.in_ok-target.ensures ∙ ap (λ (t : Target). Some t) c.in-At.is)).1

pub returns-in-Zero : goal.returns-in-Zero
unfolding symbol_value
returns-in-Zero c = ap (option_map (target_value c.args.self.now)) (c.in_ok-target.ensures ∙ ap (λ (t : Target). Some t) c.in-Zero.is)
