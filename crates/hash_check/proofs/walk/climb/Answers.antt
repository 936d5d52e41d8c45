use Rattle.std.proofs.Common.{◌≡◌, ◌≢◌, ◌+◌, [], ◌∷◌, ◌++◌, length, arith, sym, ap, subst, ◌∙◌}
use Rattle.std.specs.Prelude.{slice_index}
use Rattle.std.proofs.lemmas.List.{length_push}
use Rattle.hash_check.specs.Walk.{walk}
use Rattle.hash_check.specs.inside.Places.{IsPath, Known}
use Rattle.hash_check.proofs.Walks.{walk-zero, walk-next}
use Rattle.hash_check.proofs.Paths.{path-empty, path-push, path-full, known-tested, unknown-tested}
use Rattle.hash_check.proofs.walk.climb.Goals as goal

pub loop-path-init : goal.loop-path-init
loop-path-init c =
    let none : length c.args.path.now.items ≡ 0 = ap length c.requires.path in
    record {
      at = sym (walk-zero c.args.chains.now c.args.from) ∙ ap (walk c.args.chains.now c.args.from) (sym none);
      within = c.requires.within;
      room = omega arith;
      path = subst (IsPath c.args.chains.now c.args.from) (sym c.requires.path) (path-empty c.args.chains.now c.args.from);
    }

pub returns-then-len-count-clause-ends : goal.returns-then-len-count-clause-ends
returns-then-len-count-clause-ends c =
    path-full c.args.chains.now c.args.from c.loop-path.path.items c.requires.words c.requires.within c.loop-path.invariant.path
    (omega (arith, c.if-len-count.true, c.len.ensures, c.count.ensures, c.loop-path.path.ok.0))

pub loop-path-preserved : goal.loop-path-preserved
loop-path-preserved c =
    let some : c.loop-path.at ≢ 0 = unknown-tested c.args.places.now c.loop-path.at c.place_of.result c.requires.zero c.place_of.ensures c.loop-path-test.ensures in
    let pushed : c.push.new.self.items ≡ c.loop-path.path.items ++ c.loop-path.at ∷ [] = c.in_ok-push.ensures.items in
    let longer : length c.push.new.self.items ≡ length c.loop-path.path.items + 1 = ap length pushed ∙ length_push c.loop-path.path.items c.loop-path.at in
    record {
      at = c.next-at.ensures ∙ sym (ap (walk c.args.chains.now c.args.from) longer
          ∙ walk-next c.args.chains.now c.args.from (length c.loop-path.path.items)
          ∙ ap (slice_index c.args.chains.now) (sym c.loop-path.invariant.at));
      within = omega (arith, c.next-at.ensures, c.requires.words c.loop-path.at 0 c.loop-path.invariant.within);
      room = omega (arith, longer, c.if-len-count.false, c.len.ensures, c.count.ensures, c.loop-path.path.ok.0);
      path = subst (IsPath c.args.chains.now c.args.from) (sym pushed)
          (path-push c.args.chains.now c.args.from c.loop-path.path.items c.loop-path.at c.loop-path.invariant.path c.loop-path.invariant.at some);
    }

pub returns-clause-ends : goal.returns-clause-ends
returns-clause-ends c =
    subst (Known c.args.places.now) c.loop-path.invariant.at (known-tested c.args.places.now c.loop-path.at c.place_of.result c.place_of.ensures c.loop-path-test.ensures)
