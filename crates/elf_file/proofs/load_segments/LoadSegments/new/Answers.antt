use Rattle.std.proofs.Common.{ap, ◌∙◌}
use Rattle.elf_file.specs.inside.Index.{loads_from}
use Rattle.elf_file.proofs.LoadNumbers.{loads_from_start}
use Rattle.elf_file.proofs.load_segments.LoadSegments.new.Goals as goal

pub returns : goal.returns
returns c = ap (λ f. loads_from f 0) c.again.ensures ∙ loads_from_start c.args.headers.now
