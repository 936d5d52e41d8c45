-- The reasons why a library's bytes can't be returned.
use Rattle.std.specs.Prelude.{ℕ, List}
use Rattle.contents.specs.declared.unread.Unread.{Unread}
use Rattle.contents.specs.declared.unread.Unread.TheVariants.{NotInstalled, Unreadable, OutOfMemory}
use Rattle.program_parts.specs.declared.status.Status.{Status}
use Rattle.program_parts.specs.declared.status.Status.TheVariants.{Refused, Failed, NoMemory}
use Rattle.tool_parts.specs.Said.{device_line, memory_line}
use Rattle.tool_commands.specs.Said.{not_installed_line}

-- the status for bytes that can't be returned for this reason
abbrev pub unread_status : Unread → Status
unread_status NotInstalled = Refused
unread_status Unreadable = Failed
unread_status OutOfMemory = NoMemory

-- the message for bytes that can't be returned for this reason
abbrev pub unread_line : Unread → List ℕ
unread_line NotInstalled = not_installed_line
unread_line Unreadable = device_line
unread_line OutOfMemory = memory_line
