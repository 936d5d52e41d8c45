use Rattle.std.proofs.Common.{◌≡◌, ◌∷◌, ◌+◌, ap, sym, ◌∙◌, arith, rules}
use Rattle.elf_file.specs.inside.Needed.{values_from}
use Rattle.elf_file.proofs.NeededFrom.{values_from_skip, values_from_needed, values_from_end}
use Rattle.elf_file.proofs.needed.NeededOffsetsIterator.next.Goals as goal

pub returns-then-at-self-clause-steps : goal.returns-then-at-self-clause-steps
returns-then-at-self-clause-steps c =
    let section = c.self.inside.section.now in
    let count = c.self.inside.count in
    let at = c.next_needed-at.result in
    let end = values_from_end section count at c.if-at-self.true in
    (sym c.self.view_is ∙ values_from_skip section count c.self.inside.next at c.next_needed-at.ensures.from c.next_needed-at.ensures.within c.next_needed-at.ensures.none ∙ end, end)

pub returns-clause-steps : goal.returns-clause-steps
returns-clause-steps c =
    let section = c.self.inside.section.now in
    let count = c.self.inside.count in
    let at = c.next_needed-at.result in
    sym c.self.view_is
    ∙ values_from_skip section count c.self.inside.next at c.next_needed-at.ensures.from c.next_needed-at.ensures.within c.next_needed-at.ensures.none
    ∙ values_from_needed section count at (omega arith) (c.next_needed-at.ensures.here (omega arith))
    ∙ ap (λ e. e.value ∷ values_from section count (at + 1)) (sym c.nth_entry.ensures)

pub returns-clause-goes : goal.returns-clause-goes
returns-clause-goes c =
    let section = c.self.inside.section.now in
    let count = c.self.inside.count in
    let at = c.next_needed-at.result in
    let e : c.args.self.now ≡ c.nth_entry.result.value ∷ values_from section count (at + 1)
    = sym c.self.view_is
    ∙ values_from_skip section count c.self.inside.next at c.next_needed-at.ensures.from c.next_needed-at.ensures.within c.next_needed-at.ensures.none
    ∙ values_from_needed section count at (omega arith) (c.next_needed-at.ensures.here (omega arith))
    ∙ ap (λ e. e.value ∷ values_from section count (at + 1)) (sym c.nth_entry.ensures) in
    rw e (search rules)
