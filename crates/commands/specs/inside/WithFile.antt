-- Requests with the bytes of a file.
use Rattle.std.specs.Prelude.{◌≡◌, ◌<◌, ℕ, List, length}
use Rattle.program_parts.specs.File.{read_limit}
use Rattle.requests.specs.Request.{Request, install, replace, bind}
use Rattle.commands.specs.declared.with_file.WithFile.{WithFile}
use Rattle.commands.specs.declared.with_file.WithFile.TheVariants as with

-- the request of `asking` with these bytes
abbrev pub request_with : WithFile → List ℕ → Request
request_with with.Install bytes = install bytes
request_with with.Replace bytes = replace bytes
request_with (with.Bind base) bytes = bind bytes base

-- the request is that of `asking` with the bytes of some file
abbrev pub AsksWith : WithFile → Request → Type 0
AsksWith asking asked = (bytes : List ℕ) × (length bytes < read_limit) × (asked ≡ request_with asking bytes)
