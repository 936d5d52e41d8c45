use Rattle.std.proofs.Common.{◌≡◌, ℕ, List, length, arith, ap, subst}
use Rattle.hash_check.specs.inside.Lanes.{AllMet}
use Rattle.hash_check.proofs.Exported.{exported_some}
use Rattle.hash_check.proofs.Hashing.{met-before, met-new}
use Rattle.hash_check.proofs.table.take_in.Goals as goal

pub returns-then-met-clause-others : goal.returns-then-met-clause-others
returns-then-met-clause-others c = λ t all.
    let file : List ℕ = c.args.object.now in
    let run : List ℕ = c.run-k.new.self.symbols in
    let size : length c.run-k.new.self.symbols ≡ 8 = omega (arith, ap length c.run-k.ensures.symbols) in
    subst (AllMet file) c.run-k.ensures.symbols
    (met-before file run c.run-k.result c.args.i c.run-k.ensures.within size (c.is_lane_met-met.ensures.0 t) (subst (AllMet file) c.put.ensures.symbols all))

pub returns-then-met-clause-taken : goal.returns-then-met-clause-taken
returns-then-met-clause-taken c = λ t all.
    let file : List ℕ = c.args.object.now in
    let run : List ℕ = c.run-k.new.self.symbols in
    let size : length c.run-k.new.self.symbols ≡ 8 = omega (arith, ap length c.run-k.ensures.symbols) in
    met-new file run c.run-k.result c.args.i c.run-k.ensures.within size (exported_some file c.args.i c.requires.exported) (subst (AllMet file) c.put.ensures.symbols all)
