-- The requests of the lines of an update (own).
use Rattle.std.specs.Prelude.{ℕ, List}
use Rattle.std.specs.List.{filter_map}
use Rattle.requests.specs.Request.{Request}
use Rattle.scripts.specs.Asked.{request_meaning}

-- the requests of the lines, without the lines that make no request
abbrev pub requests_of : List (List ℕ) → List Request
requests_of lines = filter_map request_meaning lines
