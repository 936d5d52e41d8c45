use Rattle.std.proofs.Common.{List, ℕ, length, ◌<◌, ◌≡◌, sym, subst, arith}
use Rattle.std.specs.Prelude.{MatchResult, Some, None}
use Rattle.elf_dynamic.specs.Symbol.{symbols}
use Rattle.scope.specs.Objects.{Named}
use Rattle.scope.specs.Target.{target}
use Rattle.image.proofs.Bases.{count-kept, file-is, named-is}
use Rattle.image.proofs.placed.PlacedOrder.target.Goals as goal

pub resolve-requires-clause-object : goal.resolve-requires-clause-object
resolve-requires-clause-object c =
    let p = c.self.inside in
    omega (arith, c.requires.own, c.self.invariant.counted, count-kept p.order.now p.bases.items c.args.self.now c.self.invariant.counted c.self.view_is)

pub resolve-requires-clause-symbol : goal.resolve-requires-clause-symbol
resolve-requires-clause-symbol c =
    let p = c.self.inside in
    subst (λ (f : List ℕ). c.args.symbol < length (symbols f))
    (sym (file-is p.order.now p.bases.items c.args.self.now c.args.own c.self.invariant.counted c.self.view_is)) c.requires.symbol

pub returns : goal.returns
returns c =
    let p = c.self.inside in
    subst (λ (os : List Named). MatchResult c.resolve.result (λ found. target os c.args.own c.args.symbol ≡ Some found) (λ _. target os c.args.own c.args.symbol ≡ None))
    (named-is p.order.now p.bases.items c.args.self.now c.self.invariant.counted c.self.view_is) c.resolve.ensures
