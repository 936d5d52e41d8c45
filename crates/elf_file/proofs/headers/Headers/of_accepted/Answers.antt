use Rattle.elf_file.proofs.Accepted.{has_headers}
use Rattle.elf_file.proofs.headers.Headers.of_accepted.Goals as goal

pub invariant_of-result : goal.invariant_of-result
invariant_of-result c = has_headers c.args.file.now c.requires
