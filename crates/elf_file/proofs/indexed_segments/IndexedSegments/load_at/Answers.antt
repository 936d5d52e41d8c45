use Rattle.std.proofs.Common.{◌≡◌, ap, ◌∙◌, sym, arith, Some, true}
use Rattle.elf_file.specs.Segment.{is_load, program_header}
use Rattle.elf_file.specs.inside.Index.{loads_before}
use Rattle.elf_file.proofs.LoadNumbers.{load_at}
use Rattle.elf_file.proofs.InMemory.{none_above, none_in_block}
use Rattle.elf_file.proofs.indexed_segments.IndexedSegments.load_at.Goals as goal

pub returns-in_default : goal.returns-in_default
returns-in_default c = none_above c.args.self.now c.args.address c.args.size c.in_default.ensures

pub returns-then-is_in_memory_part : goal.returns-then-is_in_memory_part
returns-then-is_in_memory_part c =
    let file = c.args.self.now in
    let j = c.loop-j.j in
    let is : is_load (program_header file j) ≡ true =
    ap (λ f. is_load (program_header f j)) (sym c.headers.ensures.same) ∙ sym c.is_load.ensures ∙ c.if-is_load.true in (
      (loads_before file j, load_at file j (omega arith) is ∙ ap (λ h. Some h) (sym c.header-h.ensures)),
      sym c.is_in_memory_part.ensures ∙ c.if-is_in_memory_part.true,
    )

pub returns : goal.returns
returns c =
    none_in_block c.args.self.now c.args.address c.args.size c.narrowed-first.result c.requires c.narrowed-first.ensures
    (λ j from lt is. c.loop-j.invariant j from (omega (arith, lt)) is)
