use Rattle.std.proofs.Common.{ℕ, List, ap, sym, ◌∙◌}
use Rattle.elf_file.specs.Header.{header_count}
use Rattle.elf_file.specs.Number.{number_at}
use Rattle.executable.proofs.Counting.{count-in-front}
use Rattle.executable.proofs.executable.Executable.header_count.Goals as goal

pub returns : goal.returns
returns c =
    c.u16_at.ensures ∙ ap (λ (l : List ℕ). number_at 2 l 56) c.deref.ensures.value
    ∙ sym (count-in-front c.self.inside.front.items c.self.inside.pieces.items c.self.invariant) ∙ ap header_count c.self.view_is
