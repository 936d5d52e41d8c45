use Rattle.std.proofs.Common.{◌≡◌, ◌+◌, ◌++◌, ◌∷◌, [], ℕ, List, length, sym, ap, subst, ◌∙◌}
use Rattle.elf_dynamic.specs.Strings.{needed}
use Rattle.scope.specs.LoadOrder.{names_of}
use Rattle.scope.specs.Queue.{AreApart}
use Rattle.requests.specs.Binding.{objects}
use Rattle.states.specs.State.{Library}
use Rattle.registry.specs.declared.needs.Needs.{Needs}
use Rattle.registry.specs.inside.Walked.{IsWalked, more_needs}
use Rattle.registry.proofs.FilesRead.{one_read}
use Rattle.registry.proofs.Grows.{still_among}
use Rattle.registry.proofs.walk.Walk.take.Goals as goal

pub returns-clause-walked : goal.returns-clause-walked
returns-clause-walked g c program entries s are so_far is =
    let before : Needs = c.args.self.now.needs in
    let f : Library = c.args.file in
    let names : List (List ℕ) = names_of (objects s) in
    let apart : AreApart (length s.libraries + 1) before.places.places = subst (λ k. AreApart k before.places.places) so_far.among.places.limit c.places_are_apart.ensures in
    let bytes : c.object.result.now ≡ f.bytes = c.object.ensures.same ∙ c.admitted.ensures in
    subst (IsWalked program s c.add_needed.new.self) (sym (c.push_reserved.ensures.items ∙ ap (λ (l : List Library). l ++ f ∷ []) c.reserve.ensures.items))
    (one_read program s so_far apart c.requires.next f is c.add_needed.new.self
    (c.in_ok-add_needed.ensures.ok entries are.has are.own
    ∙ ap (λ (ns : List (List ℕ)). more_needs ns before c.name.result.now (needed c.object.result.now)) (sym are.names)
    ∙ ap (λ (m : List ℕ). more_needs names before m (needed c.object.result.now)) c.name.ensures
    ∙ ap (λ (b : List ℕ). more_needs names before f.name (needed b)) bytes))

pub returns-clause-behind : goal.returns-clause-behind
returns-clause-behind g c = c.push_reserved.ensures.items ∙ ap (λ (l : List Library). l ++ c.args.file ∷ []) c.reserve.ensures.items

pub returns-clause-among : goal.returns-clause-among
returns-clause-among g c =
    still_among c.args.file c.requires.among c.add_needed.ensures.grows c.requires.next
    (c.push_reserved.ensures.items ∙ ap (λ (l : List Library). l ++ c.args.file ∷ []) c.reserve.ensures.items)

pub add_needed-requires : goal.add_needed-requires
add_needed-requires g c = c.requires.among.places.limit
