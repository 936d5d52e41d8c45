-- Requests: commands as plain values. A command isn't a plain value, because it borrows its bytes.
use Rattle.std.specs.Prelude.{ℕ, List, map}
use Rattle.requests.specs.declared.command.Command.{Command}
use Rattle.requests.specs.declared.command.Command.TheVariants as command

pub data Request : Type 0 where
  -- the bytes of a file
  install : List ℕ → Request
  replace : List ℕ → Request
  -- the name of a library
  remove : List ℕ → Request
  -- the names of the preloads, in their order
  set_preloads : List (List ℕ) → Request
  -- the bytes of a program's file, and the base
  bind : List ℕ → ℕ → Request
  list : Request

-- the request of a command
abbrev pub request_of : Command → Request
request_of (command.Install bytes) = install bytes.now
request_of (command.Replace bytes) = replace bytes.now
request_of (command.Remove name) = remove name.now
request_of (command.SetPreloads names) = set_preloads (map (λ n. n.now) names.now)
request_of (command.Bind program base) = bind program.now base
request_of command.List = list
