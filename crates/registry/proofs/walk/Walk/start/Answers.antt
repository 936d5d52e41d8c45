use Rattle.std.proofs.Common.{◌≡◌, ◌+◌, ◌<◌, ℕ, List, None, length, sym, ap, subst, All, ◌∙◌}
use Rattle.elf_dynamic.specs.Strings.{needed}
use Rattle.scope.specs.LoadOrder.{level_0, names_of}
use Rattle.scope.specs.Objects.{program_name}
use Rattle.scope.specs.Queue.{Queue}
use Rattle.requests.specs.Binding.{objects}
use Rattle.registry.specs.declared.needs.Needs.{Needs}
use Rattle.registry.specs.inside.Walked.{IsWalked, more_needs}
use Rattle.registry.proofs.FilesRead.{none_read, first_needs}
use Rattle.registry.proofs.StateNames.{entry_count}
use Rattle.registry.proofs.walk.Walk.start.Goals as goal

pub returns-clause-ok : goal.returns-clause-ok
returns-clause-ok g c entries s are =
    let names : List (List ℕ) = names_of (objects s) in
    let listed : List ℕ = g.N.Named.listed c.args.names.now in
    let before = λ (q : Queue). let needs : Needs = record { places = q; missing = None } in needs in
    let count : g.N.Named.offered c.args.names.now ≡ length entries = g.met.N.Named.counted c.args.names.now entries are.has in
    let files : length entries ≡ length s.libraries = entry_count entries s are.names in
    let inside : All (λ p. p < length entries) listed = subst (λ (n : ℕ). All (λ p. p < n) listed) count c.preload_numbers.ensures.inside in
    subst (IsWalked c.args.program.now s c.add_needed.new.self) (sym c.new-files.ensures.items)
    (none_read c.args.program.now s listed (are.preloads inside) (subst (λ (n : ℕ). All (λ p. p < n) listed) files inside) c.preload_numbers.ensures.once c.add_needed.new.self
    (c.in_ok-add_needed.ensures.ok entries are.has are.own
    ∙ ap (λ (ns : List (List ℕ)). more_needs ns (before c.in_ok-places.places) c.program_name.result.now (needed c.object.result.now)) (sym are.names)
    ∙ ap (λ (n : List ℕ). more_needs names (before c.in_ok-places.places) n (needed c.object.result.now)) c.program_name.ensures
    ∙ ap (λ (f : List ℕ). more_needs names (before c.in_ok-places.places) program_name (needed f)) c.object.ensures.same
    ∙ ap (λ (q : Queue). more_needs names (before q) program_name (needed c.args.program.now)) c.in_ok-places.ensures
    ∙ ap (λ (n : ℕ). let q : Queue = record { limit = n + 1; places = level_0 c.deref.result.now } in more_needs names (before q) program_name (needed c.args.program.now))
    (c.count.ensures.count ∙ count ∙ files)
    ∙ ap (λ (l : List ℕ). more_needs names (first_needs (length s.libraries + 1) l) program_name (needed c.args.program.now)) (c.deref.ensures.value ∙ c.in_ok-preloads.ensures.same)))

pub add_needed-requires : goal.add_needed-requires
add_needed-requires g c = ap (λ (q : Queue). q.limit) c.in_ok-places.ensures ∙ ap (λ (n : ℕ). n + 1) c.count.ensures.count

pub returns-clause-none : goal.returns-clause-none
returns-clause-none g c = c.new-files.ensures.items
