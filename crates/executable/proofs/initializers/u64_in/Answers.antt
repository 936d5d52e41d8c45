use Rattle.std.proofs.Common.{ℕ, List, drop, take, ap, ◌∙◌, arith}
use Rattle.byteorder.specs.Endian.{little_number}
use Rattle.byteorder.specs.Numbers.{little_from-take}
use Rattle.elf_file.specs.Number.{number_at}
use Rattle.executable.proofs.initializers.u64_in.Goals as goal

pub returns : goal.returns
unfolding number_at
returns c =
    c.u64_at.ensures ∙ ap (λ (l : List ℕ). little_number 8 l) (c.copy_to.ensures ∙ ap (take 8) c.skip.ensures)
    ∙ little_from-take 0 8 8 (drop c.args.at c.args.memory.now) (omega arith)
