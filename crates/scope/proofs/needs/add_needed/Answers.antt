use Rattle.std.proofs.Common.{◌≡◌, ◌+◌, ◌++◌, ◌∷◌, [], ℕ, List, Bor, Some, None, length, take, get_or, refl, sym, ap, subst, ◌∙◌}
use Rattle.std.specs.Prelude.{is_none}
use Rattle.std.specs.List.{find, filter_map}
use Rattle.std.specs.Option.{option_map}
use Rattle.std.proofs.lemmas.Iterator.Consumers.{YieldsList-from_first, YieldsList-turn, YieldsList-end}
use Rattle.std.proofs.Math.Seq.{take-length}
use Rattle.std.proofs.lemmas.List.{length_push}
use Rattle.elf_dynamic.specs.Strings.{needed}
use Rattle.scope.specs.LoadOrder.{Need, place_of, needed_by, is_missing}
use Rattle.scope.specs.Refusal.{IsRefusal}
use Rattle.scope.specs.Queue.{grown_by, Queue}
use Rattle.scope.specs.inside.Growing.{grown}
use Rattle.scope.proofs.Growing.{grown-nil}
use Rattle.scope.proofs.Missing.{is_absent, find-more, find-here, missing-by, needs-more}
use Rattle.scope.proofs.needs.add_needed.Goals as goal

pub loop-name-init : goal.loop-name-init
loop-name-init c = record {
  places = ap (λ l. let q : Queue = record { limit = c.args.places.now.limit; places = l } in q) (sym (grown-nil c.args.places.now.places));
  clear = refl;
}

pub loop-name-preserved : goal.loop-name-preserved
loop-name-preserved c =
    let needs : List (List ℕ) = needed c.args.object.now.file in
    let names : List (List ℕ) = c.args.installed.now in
    let k : ℕ = length c.loop-name.yielded in
    let name : List ℕ = c.in-Some.name.now in
    let all = c.needed_names-name-items.ensures.names ∙ ap needed (c.object-2.ensures.same ∙ c.object.ensures) in
    let road = YieldsList-from_first (λ (x : Bor (List ℕ)). x.now) (λ (ns : List (List ℕ)). ns) needs (c.into_iter-name-iterator.ensures.into_iter_gives ∙ all) in
    let turn = YieldsList-turn road c.loop-name.yielded _ c.loop-name.yielded_by _ _ c.in-Some.name c.in-Some.is c.next.ensures.steps in
    let here : place_of names (get_or needs k name) ≡ Some c.in-Some-place_of.place = ap (place_of names) (sym turn.1) ∙ sym c.place_of.ensures.place ∙ c.in-Some-place_of.is in
    let count : length (c.loop-name.yielded ++ c.in-Some.name ∷ []) ≡ k + 1 = length_push c.loop-name.yielded c.in-Some.name in
    record {
      places =
          c.in_ok-add-in-Some-place_of.ensures.ok
          ∙ ap (λ (q : Queue). let r : Queue = record { limit = q.limit; places = grown_by q.places c.in-Some-place_of.place } in r) c.loop-name.invariant.places
          ∙ ap (λ l. let r : Queue = record { limit = c.args.places.now.limit; places = l } in r)
          (sym (needs-more c.args.places.now.places names needs k c.in-Some-place_of.place name turn.0 here)
          ∙ ap (λ m. grown c.args.places.now.places (filter_map (place_of names) (take m needs))) (sym count));
      clear =
          ap (λ m. find (is_absent names) (take m needs)) count
          ∙ find-more (is_absent names) needs k name turn.0 c.loop-name.invariant.clear (ap is_none here);
    }

pub returns-in-None-place_of-clause-refused : goal.returns-in-None-place_of-clause-refused
returns-in-None-place_of-clause-refused c =
    let needs : List (List ℕ) = needed c.args.object.now.file in
    let names : List (List ℕ) = c.args.installed.now in
    let k : ℕ = length c.loop-name.yielded in
    let name : List ℕ = c.in-Some.name.now in
    let all = c.needed_names-name-items.ensures.names ∙ ap needed (c.object-2.ensures.same ∙ c.object.ensures) in
    let road = YieldsList-from_first (λ (x : Bor (List ℕ)). x.now) (λ (ns : List (List ℕ)). ns) needs (c.into_iter-name-iterator.ensures.into_iter_gives ∙ all) in
    let turn = YieldsList-turn road c.loop-name.yielded _ c.loop-name.yielded_by _ _ c.in-Some.name c.in-Some.is c.next.ensures.steps in
    let here : place_of names (get_or needs k name) ≡ None = ap (place_of names) (sym turn.1) ∙ sym c.place_of.ensures.place ∙ c.in-None-place_of.is in
    let need = λ (needer : List ℕ) (n : List ℕ). let r : Need = record { needer = needer; name = n } in r in
    let first : find (is_missing names) (needed_by c.args.object.now) ≡ Some (need c.name.result.now name) =
    missing-by names c.args.object.now
    ∙ ap (option_map (need c.args.object.now.name)) (find-here (is_absent names) needs k name turn.0 c.loop-name.invariant.clear (ap is_none here))
    ∙ ap (λ n. Some (need c.args.object.now.name n)) (sym turn.1)
    ∙ ap (λ n. Some (need n name)) (sym c.name.ensures) in
    subst (λ o. IsRefusal o c.missing.result) (sym first) c.missing.ensures

pub returns-clause-ok : goal.returns-clause-ok
returns-clause-ok c =
    let needs : List (List ℕ) = needed c.args.object.now.file in
    let names : List (List ℕ) = c.args.installed.now in
    let all = c.needed_names-name-items.ensures.names ∙ ap needed (c.object-2.ensures.same ∙ c.object.ensures) in
    let road = YieldsList-from_first (λ (x : Bor (List ℕ)). x.now) (λ (ns : List (List ℕ)). ns) needs (c.into_iter-name-iterator.ensures.into_iter_gives ∙ all) in
    let end = YieldsList-end road c.loop-name.yielded _ c.loop-name.yielded_by _ _ c.in-None.is c.next.ensures.steps in
    c.loop-name.invariant.places
    ∙ ap (λ l. let r : Queue = record { limit = c.args.places.now.limit; places = grown c.args.places.now.places (filter_map (place_of names) l) } in r)
    (ap (λ m. take m needs) end.1 ∙ take-length needs)

pub returns-clause-found : goal.returns-clause-found
returns-clause-found c =
    let needs : List (List ℕ) = needed c.args.object.now.file in
    let names : List (List ℕ) = c.args.installed.now in
    let all = c.needed_names-name-items.ensures.names ∙ ap needed (c.object-2.ensures.same ∙ c.object.ensures) in
    let road = YieldsList-from_first (λ (x : Bor (List ℕ)). x.now) (λ (ns : List (List ℕ)). ns) needs (c.into_iter-name-iterator.ensures.into_iter_gives ∙ all) in
    let end = YieldsList-end road c.loop-name.yielded _ c.loop-name.yielded_by _ _ c.in-None.is c.next.ensures.steps in
    missing-by names c.args.object.now
    ∙ ap (option_map (λ n. let r : Need = record { needer = c.args.object.now.name; name = n } in r))
    (ap (find (is_absent names)) (sym (ap (λ m. take m needs) end.1 ∙ take-length needs)) ∙ c.loop-name.invariant.clear)
