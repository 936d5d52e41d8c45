use Rattle.std.proofs.Common.{◌≡◌, ◌<◌, ◌∙◌, ◌∷◌, ◌++◌, [], ℕ, List, Option, None, length, take, drop, get_or, arith, ap, sym, subst}
use Rattle.std.proofs.Math.Seq.{take-append_seam}
use Rattle.std.proofs.lemmas.List.{length-append, get_or_default}
use Rattle.hash_check.specs.Numbered.{nth_symbol}
use Rattle.hash_check.specs.declared.numbered.NumberedSymbol.{NumberedSymbol}
use Rattle.scope.specs.Objects.{Named}
use Rattle.scope.specs.declared.target.Target.{Target}
use Rattle.scope.specs.inside.Definitions.{nth_target, AreLast, own_of, own_definition}
use Rattle.scope.proofs.Kept.{last-none, own-found, own-more}
use Rattle.scope.proofs.definitions.own_definitions.Goals as goal

pub loop-at-preserved : goal.loop-at-preserved
loop-at-preserved c =
    let objects : List Named = c.args.objects.now in
    let all : List NumberedSymbol = c.args.symbols.now in
    let at : ℕ = c.loop-at.at in
    let new : List (Option Target) = c.keep_up_to-kept.new.last in
    let rest : List (Option Target) = drop (length c.keep_up_to-kept.new.last) c.loop-at.last.items in
    let lt : c.loop-at.at < length c.args.symbols.now = c.loop-at-test.true in
    let size : c.loop-at.last.len ≡ length c.keep_up_to-kept.new.last = omega (arith, c.keep_up_to-kept.auto.last, c.deref_mut.ensures.len) in
    let whole : take c.loop-at.last.len (c.keep_up_to-kept.new.last ++ drop (length c.keep_up_to-kept.new.last) c.loop-at.last.items) ≡ c.keep_up_to-kept.new.last =
    ap (λ n. take n (new ++ rest)) size ∙ take-append_seam new rest in
    let last = c.keep_up_to-kept.ensures.last in
    let up_to = c.keep_up_to-kept.ensures.up_to in
    let room : (nth_symbol all c.loop-at.at).number < length c.keep_up_to-kept.new.last = omega (arith, c.requires.numbered.few c.loop-at.at lt, last.size) in
    let read : c.index.result.now ≡ nth_target new (nth_symbol all c.loop-at.at).number =
    c.index.ensures ∙ ap (λ l. get_or l (nth_symbol all at).number c.index.result.now) whole ∙ get_or_default new (nth_symbol all at).number c.index.result.now None room in
    let is : c.own_one.result ≡ own_definition objects (nth_symbol all c.loop-at.at) =
    c.own_one.ensures ∙ ap (own_of (nth_symbol all at).object) read
    ∙ own-found objects all c.requires.numbered c.requires.taken new c.keep_up_to-kept.result c.loop-at.at lt last up_to in
    record {
      last = subst (AreLast objects all c.keep_up_to-kept.result) (sym whole) last;
      within = up_to.within;
      low = λ j k before behind within. omega (arith, up_to.low j before, c.requires.numbered.are.rising c.loop-at.at k (omega (arith, behind)) within);
      count = omega (arith, ap length c.push_reserved.ensures.items, length-append c.loop-at.own.items (c.own_one.result ∷ []), c.loop-at.invariant.count);
      room = omega (arith, c.push_reserved.ensures.capacity, c.loop-at.invariant.room);
      own = λ k le. subst (λ (l : List (Option Target)). nth_target l k ≡ own_definition objects (nth_symbol all k)) (sym c.push_reserved.ensures.items)
          (own-more objects all c.loop-at.own.items c.loop-at.at c.own_one.result c.loop-at.invariant.count c.loop-at.invariant.own is k le);
    }

pub loop-at-init : goal.loop-at-init
loop-at-init c = record {
  last = last-none c.args.objects.now c.args.symbols.now c.in_ok-last.last.items c.in_ok-last.ensures;
  within = omega arith;
  low = λ j k before. absurd (omega (arith, before));
  count = ap length c.in_ok-own.ensures.items;
  room = c.in_ok-own.ensures.capacity;
  own = λ k lt. absurd (omega (arith, lt));
}
