use Rattle.std.proofs.Common.{sym, ◌∙◌}
use Rattle.elf_dynamic.proofs.Misplaced.{in_memory_by, fine_by_place}
use Rattle.elf_dynamic.proofs.place.is_misplaced.Goals as goal

pub returns-then-is_in_memory_part-clause-ok : goal.returns-then-is_in_memory_part-clause-ok
returns-then-is_in_memory_part-clause-ok c =
    let file = c.args.segments.now in
    let r = c.args.relocation in
    sym (fine_by_place file r (in_memory_by file r.offset 8 c.in-Some.load (rw c.in-Some.is at c.requires) (sym c.is_in_memory_part.ensures ∙ c.if-is_in_memory_part.true)))

pub returns-in-Some-load_at-clause-ok : goal.returns-in-Some-load_at-clause-ok
returns-in-Some-load_at-clause-ok c =
    let file = c.args.segments.now in
    let r = c.args.relocation in
    sym (fine_by_place file r (in_memory_by file r.offset 8 c.in-Some-load_at.load c.in-Some-load_at.ensures.0 c.in-Some-load_at.ensures.1))
