use Rattle.std.proofs.Common.{sym}
use Rattle.scripts.proofs.Ascii.{no_base}
use Rattle.scripts.proofs.word.base_in.Goals as goal

pub returns-in-Err : goal.returns-in-Err
returns-in-Err c = sym (no_base c.args.word.now c.in-Err.ensures.cases.0)
