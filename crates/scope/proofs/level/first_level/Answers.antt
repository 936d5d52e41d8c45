use Rattle.std.proofs.Common.{◌≡◌, ◌+◌, ℕ, List, map, take, get_or, length, [], ◌∷◌, sym, ap, ◌∙◌, arith}
use Rattle.std.proofs.Math.Seq.{take-length}
use Rattle.std.proofs.lemmas.List.{map_more}
use Rattle.scope.specs.Queue.{grown_by, Queue}
use Rattle.scope.specs.inside.Growing.{grown}
use Rattle.scope.proofs.Growing.{grown-nil, grown-push}
use Rattle.scope.proofs.Apart.{grown-level_0}
use Rattle.scope.proofs.level.first_level.Goals as goal

pub loop-preload-init : goal.loop-preload-init
loop-preload-init c =
    c.in_ok-add.ensures.ok
    ∙ ap (λ (q : Queue). let r : Queue = record { limit = q.limit; places = grown_by q.places 0 } in r) c.in_ok-places.ensures
    ∙ ap (λ l. let r : Queue = record { limit = c.args.count + 1; places = l } in r) (sym (grown-nil (0 ∷ [])))

pub loop-preload-preserved : goal.loop-preload-preserved
loop-preload-preserved c =
    let i : ℕ = c.loop-preload.preload-index in
    let preloads : List ℕ = c.args.preloads.now in
    let raised = λ (p : ℕ). p + 1 in
    c.in_ok-add-2.ensures.ok
    ∙ ap (λ (q : Queue). let r : Queue = record { limit = q.limit; places = grown_by q.places (get_or preloads i 0 + 1) } in r) c.loop-preload.invariant
    ∙ ap (λ l. let r : Queue = record { limit = c.args.count + 1; places = l } in r)
    (sym (grown-push (0 ∷ []) (map raised (take i preloads)) (get_or preloads i 0 + 1)) ∙ ap (grown (0 ∷ [])) (sym (map_more raised preloads i 0 c.loop-preload-test.true)))

pub returns : goal.returns
returns c =
    let preloads : List ℕ = c.args.preloads.now in
    let end : c.loop-preload.preload-index ≡ length preloads = omega arith in
    c.loop-preload.invariant
    ∙ ap (λ l. let r : Queue = record { limit = c.args.count + 1; places = grown (0 ∷ []) (map (λ p. p + 1) l) } in r) (ap (λ k. take k preloads) end ∙ take-length preloads)
    ∙ ap (λ l. let r : Queue = record { limit = c.args.count + 1; places = l } in r) (grown-level_0 preloads c.requires.distinct)
