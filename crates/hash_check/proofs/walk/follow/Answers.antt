use Rattle.std.proofs.Common.{length, subst, sym}
use Rattle.std.specs.Prelude.{MatchBool}
use Rattle.hash_check.specs.Walk.{walk, Ends}
use Rattle.hash_check.specs.inside.Places.{Known}
use Rattle.hash_check.proofs.walk.follow.Goals as goal

pub place_path-requires-clause-known : goal.place_path-requires-clause-known
place_path-requires-clause-known c =
    subst (λ b. MatchBool b (Known c.args.places.now (walk c.args.chains.now c.args.from (length c.climb.new.path.items)))
    (¬ Ends c.args.chains.now c.args.from)) c.if-ends.true c.in_ok-ends.ensures.ends

pub returns-then-ends-clause-ends : goal.returns-then-ends-clause-ends
returns-then-ends-clause-ends c =
    subst (λ b. MatchBool b (Known c.place_path.new.places c.args.from) (¬ Ends c.args.chains.now c.args.from)) (sym c.if-ends.true) c.place_path.ensures.known
