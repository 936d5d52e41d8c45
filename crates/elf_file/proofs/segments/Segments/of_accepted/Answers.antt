use Rattle.std.proofs.Common.{subst, sym, List, ℕ}
use Rattle.elf_file.specs.inside.Index.{HasSegments}
use Rattle.elf_file.proofs.Accepted.{has_segments}
use Rattle.elf_file.proofs.segments.Segments.of_accepted.Goals as goal

pub invariant_of-result : goal.invariant_of-result
invariant_of-result c = subst (λ (file : List ℕ). HasSegments file) (sym c.of_accepted.ensures) (has_segments c.args.file.now c.requires.segments)
