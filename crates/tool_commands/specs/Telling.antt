-- The ways in which a reply is written (own).
use Rattle.requests.specs.declared.reply.Reply.{Reply}
use Rattle.requests.specs.declared.reply.Reply.TheVariants.{Bound}
use Rattle.program_parts.specs.Reply.{reply_text}
use Rattle.program_parts.specs.Status.{reply_status}
use Rattle.program_parts.specs.declared.status.Status.{Status}
use Rattle.tool_commands.specs.Executable.{TellsExecutable}
use Rattle.tool_parts.specs.Said.{said_line}
use Rattle.tool_parts.specs.Streams.{Streams, SaysOnly, TellsOnly}
use Rattle.tool_commands.specs.declared.telling.Telling.{Telling}
use Rattle.tool_commands.specs.declared.telling.Telling.TheVariants.{Text, Executable}

-- With `Text`, the reply's text is written to the output. With `Executable`, an image is written to
-- the output as an executable file, and the text of any other reply to standard error.
abbrev pub TellsReply : Telling → Reply → Streams → Status → Type 0
TellsReply Text reply io status = TellsOnly (reply_status reply) (reply_text reply) io status
TellsReply Executable (Bound image) io status = TellsExecutable image io status
TellsReply Executable reply io status = SaysOnly (reply_status reply) (said_line (reply_text reply)) io status
