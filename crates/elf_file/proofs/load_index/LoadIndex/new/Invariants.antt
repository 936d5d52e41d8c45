use Rattle.elf_file.specs.inside.Index.{Indexes}
use Rattle.elf_file.proofs.load_index.LoadIndex.new.Given as goal

abbrev pub invariant-loop-i : goal.invariant-loop-i
invariant-loop-i l = Indexes l.headers l.i l.index
