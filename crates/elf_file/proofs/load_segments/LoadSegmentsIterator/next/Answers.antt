use Rattle.std.proofs.Common.{◌≡◌, ◌∷◌, ◌+◌, ap, sym, ◌∙◌, arith, rules}
use Rattle.elf_file.specs.inside.Index.{loads_from}
use Rattle.elf_file.proofs.LoadNumbers.{loads_from_skip, loads_from_load, loads_from_end}
use Rattle.elf_file.proofs.load_segments.LoadSegmentsIterator.next.Goals as goal

pub returns-then-at-count-clause-steps : goal.returns-then-at-count-clause-steps
returns-then-at-count-clause-steps c =
    let file = c.self.inside.headers in
    let at = c.next_load-at.result in
    let end = loads_from_end file at (c.if-at-count.true ∙ c.count.ensures.ok) in
    (sym c.self.view_is ∙ loads_from_skip file c.self.inside.next at c.next_load-at.ensures.from c.next_load-at.ensures.within c.next_load-at.ensures.none ∙ end, end)

pub returns-clause-steps : goal.returns-clause-steps
returns-clause-steps c =
    let file = c.self.inside.headers in
    let at = c.next_load-at.result in
    sym c.self.view_is
    ∙ loads_from_skip file c.self.inside.next at c.next_load-at.ensures.from c.next_load-at.ensures.within c.next_load-at.ensures.none
    ∙ loads_from_load file at (omega arith) (c.next_load-at.ensures.here (omega arith))
    ∙ ap (λ h. h ∷ loads_from file (at + 1)) (sym c.nth.ensures)

pub returns-clause-goes : goal.returns-clause-goes
returns-clause-goes c =
    let file = c.self.inside.headers in
    let at = c.next_load-at.result in
    let e : c.args.self.now ≡ c.nth.result ∷ loads_from file (at + 1)
    = sym c.self.view_is
    ∙ loads_from_skip file c.self.inside.next at c.next_load-at.ensures.from c.next_load-at.ensures.within c.next_load-at.ensures.none
    ∙ loads_from_load file at (omega arith) (c.next_load-at.ensures.here (omega arith))
    ∙ ap (λ h. h ∷ loads_from file (at + 1)) (sym c.nth.ensures) in
    rw e (search rules)
