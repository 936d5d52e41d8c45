-- The command that a line of a script requests (own).
use Rattle.std.specs.Prelude.{ℕ, List, drop, codes, bytes_eq, map, Option, Some, None, if◌then◌else◌}
use Rattle.std.specs.Option.{option_map}
use Rattle.requests.specs.Request.{Request, install, replace, remove, set_preloads, bind, list}
use Rattle.scripts.specs.Words.{has_front, hex_bytes, named, names_behind, program_behind}
use Rattle.scripts.specs.declared.command.AskedCommand.{AskedCommand}
use Rattle.scripts.specs.declared.command.AskedCommand.TheVariants as asked

-- the command that a line (without its newline) requests, or none if the line has none of these
-- forms
abbrev pub request_meaning : List ℕ → Option Request
request_meaning line =
    if has_front (codes "install ") line then option_map install (hex_bytes (drop 8 line))
    else if has_front (codes "replace ") line then option_map replace (hex_bytes (drop 8 line))
    else if has_front (codes "remove ") line then option_map remove (named (drop 7 line))
    else if has_front (codes "preload") line then option_map set_preloads (names_behind (drop 7 line))
    else if has_front (codes "bind ") line then option_map (λ p. bind p.0 p.1) (program_behind (drop 5 line))
    else if bytes_eq line (codes "list") then Some list
    else None

-- the request of a command that was read in a line
abbrev pub request_asked : AskedCommand → Request
request_asked (asked.Install bytes) = install bytes.items
request_asked (asked.Replace bytes) = replace bytes.items
request_asked (asked.Remove name) = remove name.now
request_asked (asked.SetPreloads names) = set_preloads (map (λ n. n.now) names.items)
request_asked (asked.Bind program base) = bind program.items base
request_asked asked.List = list
