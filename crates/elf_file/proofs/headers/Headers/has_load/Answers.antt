use Rattle.std.proofs.Common.{ap, ◌∙◌, nat_lt}
use Rattle.elf_file.proofs.AnyLoad.{has_load_by}
use Rattle.elf_file.proofs.headers.Headers.has_load.Goals as goal

pub returns : goal.returns
returns c =
    ap (nat_lt c.next_load.result) c.count.ensures.ok
    ∙ has_load_by c.args.self.now c.next_load.result c.next_load.ensures.within c.next_load.ensures.none c.next_load.ensures.here
