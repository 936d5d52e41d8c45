use Rattle.std.proofs.Common.{ℕ, List, drop, take, ap, ◌∙◌, arith}
use Rattle.byteorder.specs.Endian.{little_number}
use Rattle.byteorder.specs.Numbers.{little_from-take}
use Rattle.elf_file.specs.Number.{number_at}
use Rattle.executable.proofs.static_pie.u32_in.Goals as goal

pub returns : goal.returns
unfolding number_at
returns c =
    c.u32_at.ensures ∙ ap (λ (l : List ℕ). little_number 4 l) (c.copy_to.ensures ∙ ap (take 4) c.skip.ensures)
    ∙ little_from-take 0 4 4 (drop c.args.at c.args.memory.now) (omega arith)
