use Rattle.std.proofs.Common.{◌≡◌, ◌+◌, ◌++◌, ◌∷◌, [], ℕ, List, Bor, length, take, sym, ap, ◌∙◌}
use Rattle.std.proofs.lemmas.Iterator.Consumers.{YieldsList-from_first, YieldsList-turn, YieldsList-end}
use Rattle.std.proofs.Math.Seq.{take-length}
use Rattle.std.proofs.lemmas.List.{length_push}
use Rattle.elf_dynamic.specs.Strings.{needed}
use Rattle.registry.specs.inside.Walked.{more_needs}
use Rattle.registry.specs.declared.needs.Needs.{Needs}
use Rattle.registry.proofs.Grows.{grows_more, grows_none}
use Rattle.registry.proofs.NamedPlaces.{named-nil, named-more}
use Rattle.store.specs.NameOrder.{entry_names}
use Rattle.registry.proofs.needs.Needs.add_each.Goals as goal

pub loop-name-init : goal.loop-name-init
loop-name-init g c = (λ entries has own. named-nil (entry_names entries) c.args.needer.now c.args.self.now, grows_none c.args.self.now)

pub loop-name-preserved : goal.loop-name-preserved
loop-name-preserved g c =
    let needs : List (List ℕ) = needed c.args.object.now in
    let needer : List ℕ = c.args.needer.now in
    let k : ℕ = length c.loop-name.yielded in
    let name : List ℕ = c.in-Some.name.now in
    let road = YieldsList-from_first (λ (x : Bor (List ℕ)). x.now) (λ (ns : List (List ℕ)). ns) needs (c.into_iter-name-iterator.ensures.into_iter_gives ∙ c.needed_names-name-items.ensures.names) in
    let turn = YieldsList-turn road c.loop-name.yielded _ c.loop-name.yielded_by _ _ c.in-Some.name c.in-Some.is c.next.ensures.steps in
    let count : length (c.loop-name.yielded ++ c.in-Some.name ∷ []) ≡ k + 1 = length_push c.loop-name.yielded c.in-Some.name in (
      λ entries has own.
          c.in_ok-add_named.ensures.ok entries has own
          ∙ ap (λ (n : Needs). more_needs (entry_names entries) n needer (name ∷ [])) (c.loop-name.invariant.0 entries has own)
          ∙ ap (λ (n : List ℕ). more_needs (entry_names entries) (more_needs (entry_names entries) c.args.self.now needer (take k needs)) needer (n ∷ [])) turn.1
          ∙ named-more (entry_names entries) needer c.args.self.now needs k name turn.0
          ∙ ap (λ (m : ℕ). more_needs (entry_names entries) c.args.self.now needer (take m needs)) (sym count),
      grows_more c.args.self.now c.loop-name.self c.add_named.new.self c.loop-name.invariant.1 c.add_named.ensures.grows,
    )

pub returns-in_err-add_named-clause-grows : goal.returns-in_err-add_named-clause-grows
returns-in_err-add_named-clause-grows g c = grows_more c.args.self.now c.loop-name.self c.add_named.new.self c.loop-name.invariant.1 c.add_named.ensures.grows

pub returns-clause-ok : goal.returns-clause-ok
returns-clause-ok g c entries has own =
    let needs : List (List ℕ) = needed c.args.object.now in
    let road = YieldsList-from_first (λ (x : Bor (List ℕ)). x.now) (λ (ns : List (List ℕ)). ns) needs (c.into_iter-name-iterator.ensures.into_iter_gives ∙ c.needed_names-name-items.ensures.names) in
    let end = YieldsList-end road c.loop-name.yielded _ c.loop-name.yielded_by _ _ c.in-None.is c.next.ensures.steps in
    c.loop-name.invariant.0 entries has own
    ∙ ap (more_needs (entry_names entries) c.args.self.now c.args.needer.now) (ap (λ (m : ℕ). take m needs) end.1 ∙ take-length needs)

pub returns-clause-grows : goal.returns-clause-grows
returns-clause-grows g c = c.loop-name.invariant.1
