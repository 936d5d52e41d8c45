use Rattle.std.proofs.Common.{refl}
use Rattle.commands.proofs.disk.name_file.Goals as goal

pub returns-in-Err-NotSynced : goal.returns-in-Err-NotSynced
returns-in-Err-NotSynced g c = record { refused = (8, refl) }
