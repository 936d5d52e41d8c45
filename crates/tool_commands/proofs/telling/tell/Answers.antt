use Rattle.std.proofs.Common.{rules}
use Rattle.tool_commands.proofs.telling.tell.Goals as goal

pub returns-in-Executable-default : goal.returns-in-Executable-default
returns-in-Executable-default g c = search rules
