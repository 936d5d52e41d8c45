use Rattle.std.proofs.Common.{◌≡◌, ◌+◌, ◌<◌, ◌≤◌, ℕ, List, None, length, take, get_or, refl, ap, sym, subst, ◌∙◌, arith}
use Rattle.std.specs.List.{find, filter_map}
use Rattle.std.proofs.lemmas.Result.{err_from_is_err_and}
use Rattle.elf_dynamic.specs.Strings.{needed}
use Rattle.scope.specs.Objects.{Named}
use Rattle.scope.specs.LoadOrder.{available, names_of, place_of, needs_of, level_0, object_at, needed_by, is_missing, missing}
use Rattle.scope.specs.Refusal.{IsRefusal}
use Rattle.scope.specs.Queue.{Queue}
use Rattle.scope.specs.inside.Growing.{grown}
use Rattle.scope.proofs.Growing.{grown-longer}
use Rattle.scope.proofs.Reaching.{reached-start}
use Rattle.scope.proofs.Queueing.{IsReached, listed, first_missing, reached-more, clear-more, refused-at, places-end, missing-end}
use Rattle.scope.proofs.loading.load_places.Goals as goal

pub loop-i-init : goal.loop-i-init
loop-i-init c =
    let needs = needs_of c.args.program.now c.args.libraries.now in
    let n : ℕ = length (available c.args.program.now c.args.libraries.now) in
    record {
      limit = ap (λ (q : Queue). q.limit) c.in_ok-places.ensures;
      within = omega arith;
      reached = subst (λ (q : Queue). IsReached c.args.program.now c.args.libraries.now c.args.preloads.now q.places 0) (sym c.in_ok-places.ensures)
          (reached-start needs n (level_0 c.args.preloads.now) (omega arith));
      clear = refl;
    }

pub returns-in_err-add_needed-clause-refused : goal.returns-in_err-add_needed-clause-refused
returns-in_err-add_needed-clause-refused c =
    let p = err_from_is_err_and c.from_residual-in_err-add_needed.result c.from_residual-in_err-add_needed.ensures.1 in
    let program : List ℕ = c.args.program.now in
    let libraries : List Named = c.args.libraries.now in
    let places : List ℕ = c.loop-i.places.places in
    let i : ℕ = c.loop-i.i in
    let lt : i < length places = omega (arith, c.count.ensures.count, c.loop-i-test.true) in
    let few : length places ≤ length (available program libraries) = omega (arith, c.count.ensures.few, c.loop-i.invariant.limit) in
    let object : c.object_at-object.result ≡ object_at (available program libraries) (get_or places i 0) = c.object_at-object.ensures.object
    ∙ ap (object_at (available program libraries)) c.at.ensures.at in
    let same =
    ap (λ ns. find (is_missing ns) (needed_by c.object_at-object.result)) c.in_ok-installed.ensures
    ∙ ap (λ (o : Named). find (is_missing (names_of libraries)) (needed_by o)) object in
    rw p.1 (subst (IsRefusal (missing program libraries c.args.preloads.now)) (sym p.2)
    (refused-at program libraries c.args.preloads.now places i c.in_err-add_needed.field-0.0 c.loop-i.invariant.reached lt few c.loop-i.invariant.clear
    (subst (λ first. IsRefusal first c.in_err-add_needed.field-0.0) same c.in_err-add_needed.ensures.refused)))

pub loop-i-preserved : goal.loop-i-preserved
loop-i-preserved c =
    let program : List ℕ = c.args.program.now in
    let libraries : List Named = c.args.libraries.now in
    let places : List ℕ = c.loop-i.places.places in
    let i : ℕ = c.loop-i.i in
    let lt : i < length places = omega (arith, c.count.ensures.count, c.loop-i-test.true) in
    let few : length places ≤ length (available program libraries) = omega (arith, c.count.ensures.few, c.loop-i.invariant.limit) in
    let x : c.at.result ≡ get_or places i 0 = c.at.ensures.at in
    let object : c.object_at-object.result ≡ object_at (available program libraries) (get_or places i 0) = c.object_at-object.ensures.object ∙ ap (object_at (available program libraries)) x in
    let more : c.add_needed.new.places.places ≡ grown places (needs_of program libraries (get_or places i 0)) =
    ap (λ (q : Queue). q.places) c.in_ok-add_needed.ensures.ok
    ∙ ap (λ ns. grown places (filter_map (place_of ns) (needed c.object_at-object.result.file))) c.in_ok-installed.ensures
    ∙ ap (λ (o : Named). grown places (filter_map (place_of (names_of libraries)) (needed o.file))) object in
    let found : find (is_missing (names_of libraries)) (needed_by (object_at (available program libraries) (get_or places i 0))) ≡ None =
    ap (λ (o : Named). find (is_missing (names_of libraries)) (needed_by o)) (sym object)
    ∙ ap (λ ns. find (is_missing ns) (needed_by c.object_at-object.result)) (sym c.in_ok-installed.ensures)
    ∙ c.in_ok-add_needed.ensures.found in
    record {
      limit = ap (λ (q : Queue). q.limit) c.in_ok-add_needed.ensures.ok ∙ c.loop-i.invariant.limit;
      within = omega (arith, lt, ap length more, grown-longer places (needs_of program libraries (get_or places i 0)));
      reached = subst (λ l. IsReached program libraries c.args.preloads.now l (i + 1)) (sym more)
          (reached-more program libraries c.args.preloads.now places i c.loop-i.invariant.reached lt few);
      clear = ap (λ l. first_missing program libraries c.args.preloads.now (listed program libraries c.args.preloads.now (take (i + 1) l))) more
          ∙ clear-more program libraries c.args.preloads.now places (needs_of program libraries (get_or places i 0)) i lt c.loop-i.invariant.clear found;
    }

pub returns-clause-ok : goal.returns-clause-ok
returns-clause-ok c =
    c.into_vec.ensures.places
    ∙ sym (places-end c.args.program.now c.args.libraries.now c.args.preloads.now c.loop-i.places.places c.loop-i.i c.loop-i.invariant.reached
    (omega (arith, c.count.ensures.count, c.loop-i-test.false)))

pub returns-clause-found : goal.returns-clause-found
returns-clause-found c =
    missing-end c.args.program.now c.args.libraries.now c.args.preloads.now c.loop-i.places.places c.loop-i.i c.loop-i.invariant.reached c.loop-i.invariant.within
    (omega (arith, c.count.ensures.count, c.loop-i-test.false)) c.loop-i.invariant.clear

pub first_level-requires-clause-preloads : goal.first_level-requires-clause-preloads
first_level-requires-clause-preloads c = c.requires.preloads

pub first_level-requires-clause-distinct : goal.first_level-requires-clause-distinct
first_level-requires-clause-distinct c = c.requires.distinct
