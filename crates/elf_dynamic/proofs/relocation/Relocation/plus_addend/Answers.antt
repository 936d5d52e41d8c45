use Rattle.std.proofs.Common.{sym}
use Rattle.elf_dynamic.proofs.SignedSum.{signed_sum}
use Rattle.elf_dynamic.proofs.relocation.Relocation.plus_addend.Goals as goal

pub returns-clause-signed : goal.returns-clause-signed
returns-clause-signed c = sym (signed_sum c.args.value c.args.self)
