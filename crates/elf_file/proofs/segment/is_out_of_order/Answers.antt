use Rattle.elf_file.proofs.segment.is_out_of_order.Goals as goal

pub returns : goal.returns
returns c = rw (c.from.ensures, c.from-2.ensures, c.from-3.ensures)
