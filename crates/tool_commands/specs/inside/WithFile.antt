-- Requests to a registry that need the bytes of a file.
use Rattle.std.specs.Prelude.{ℕ, List}
use Rattle.file_disk.specs.declared.disk_file.Access.{Access}
use Rattle.file_disk.specs.declared.disk_file.Access.TheVariants.{Reading, Changes}
use Rattle.program_parts.specs.declared.status.Status.{Status}
use Rattle.requests.specs.Request.{Request, replace, bind}
use Rattle.tool_commands.specs.Outcome.{AskEnds, BindingsAskEnds, ReadEnds}
use Rattle.tool_parts.specs.Streams.{Streams}
use Rattle.tool_commands.specs.declared.telling.Telling.{Telling}
use Rattle.tool_commands.specs.declared.telling.Telling.TheVariants as telling
use Rattle.tool_commands.specs.declared.with_file.WithFile.{WithFile}
use Rattle.tool_commands.specs.declared.with_file.WithFile.TheVariants as with

-- the request with these bytes
abbrev pub request_with : WithFile → List ℕ → Request
request_with with.Replace bytes = replace bytes
request_with (with.Executable base) bytes = bind bytes base

-- the access with which the request's disk is opened
abbrev pub access_of : WithFile → Access
access_of with.Replace = Changes
access_of (with.Executable base) = Reading

-- the way in which the request's reply is written
abbrev pub telling_of : WithFile → Telling
telling_of with.Replace = telling.Text
telling_of (with.Executable base) = telling.Executable

-- the end of a request that needs the bytes of a file
abbrev pub AskEndsWith : WithFile → Streams → Status → Type 0
AskEndsWith asking io status = ReadEnds (λ bytes. AskEnds (request_with asking bytes) (telling_of asking) io status) io status

-- the end of `bindings` if the program is read from a file and bound at `base`
abbrev pub BindingsEndWith : ℕ → Streams → Status → Type 0
BindingsEndWith base io status = ReadEnds (λ bytes. BindingsAskEnds bytes base io status) io status
